-- The steps of a walk: source document 000, with document 01's choices.
pub mod walk_texts
pub mod steps
pub mod cycle
pub mod question_request
pub mod rounds

-- The two caches in lent memory: document 01, "The two caches".
pub mod places
pub mod order

-- The calls of a host.
pub mod call_end
pub mod resting
pub mod start_steps
pub mod answer_steps
pub mod calls

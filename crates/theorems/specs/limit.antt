-- Demand 3: the unlimited walk, the list of calls, and what is claimed of them.
pub mod Unlimited
pub mod Calls
pub mod Exported
pub mod Limits

-- Exports for the tests in host/.
pub mod layouts

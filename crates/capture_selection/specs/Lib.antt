pub mod Captures
pub mod Outcomes
pub mod Selector

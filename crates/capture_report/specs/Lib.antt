pub mod Failures
pub mod FilterNames
pub mod Outputs
pub mod Reports
pub mod Tasks

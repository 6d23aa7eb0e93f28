pub mod Blocks
pub mod Captures
pub mod Copies
pub mod Parts
pub mod Passing
pub mod Records
pub mod Visits

pub mod Blocks
pub mod LinkTypes
pub mod Numbers
pub mod Options

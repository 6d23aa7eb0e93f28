pub mod Facts
pub mod Inputs
pub mod NewFiles
pub mod Progress

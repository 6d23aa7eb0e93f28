pub mod Layouts
pub mod StoredChecksums
pub mod Transports
pub mod Verdicts

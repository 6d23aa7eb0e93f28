pub mod Captures
pub mod PacketsText
pub mod ReportText
pub mod Runs
pub mod Timelines

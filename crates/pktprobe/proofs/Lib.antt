pub mod ReportLemmas
pub mod WorkedExamples

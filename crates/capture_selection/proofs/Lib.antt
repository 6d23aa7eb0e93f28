pub mod CaptureLemmas
pub mod SelectionExamples
pub mod SelectorLemmas

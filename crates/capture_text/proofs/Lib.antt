pub mod AddressLemmas
mod LineExamples
pub mod LineLaws
mod NameLemmas
mod TimelineTextExamples
mod TimelineTextLaws
mod TimelineTextLemmas

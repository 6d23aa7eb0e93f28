mod JsonExamples
mod JsonLaws
mod JsonLemmas
mod JsonTimelineExamples
mod OptionLaws
pub mod TokensLemmas

pub mod AbsoluteTimeLemmas
mod FactsExamples
pub mod FactsLemmas
mod FieldExamples
pub mod FlagLemmas
pub mod LinkLayerLemmas
pub mod ShownLemmas
pub mod TcpTextLaws
pub mod TcpTextLemmas
pub mod TimeExamples
pub mod WordsExamples
pub mod WrittenLemmas

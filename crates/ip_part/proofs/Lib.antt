mod FixedHeaderLemmas
pub mod HeadersLemmas
mod LengthLemmas
pub mod OptionsLemmas
mod ReadingLemmas
mod RefusalLemmas
pub mod TransportLemmas
mod WorkedExamples

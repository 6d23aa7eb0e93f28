pub mod BytesLemmas
pub mod DetectionLemmas
pub mod MaskedLemmas
pub mod PlainSumLemmas
pub mod PseudoHeaderLemmas
pub mod StoredChecksumLemmas
pub mod SumChangeLemmas
pub mod WorkedExamples

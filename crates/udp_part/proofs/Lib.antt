pub mod TranslationLemmas
pub mod UdpFormatLemmas
pub mod UdpValidityLemmas
pub mod WorkedExamples

pub mod ArgumentLemmas
pub mod CaptureLemmas
pub mod CountLemmas
pub mod MergingLemmas
pub mod OutputLemmas
pub mod PacketLemmas
pub mod TranslationLemmas

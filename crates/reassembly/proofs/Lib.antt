pub mod CountLemmas
pub mod CutLemmas
pub mod FragmentHeaderLemmas
pub mod FragmentLemmas
pub mod KeptLemmas
pub mod KeyLemmas
pub mod OnlySoLemmas
pub mod OverlapLemmas
pub mod PacketCutLemmas
pub mod PacketLemmas
pub mod PartLemmas
pub mod WaitingLemmas
pub mod WholeHeaderLemmas
mod WorkedExamples

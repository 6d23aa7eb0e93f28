mod FieldExamples
pub mod FrameLemmas
mod LinkExamples
pub mod LinkLaws
pub mod LinkLemmas
pub mod MplsLemmas
pub mod NflogLemmas
pub mod PacketExamples
mod TunnelExamples
pub mod TunnelLemmas

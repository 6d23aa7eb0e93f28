mod ConversationLemmas
mod CountedPacketsLemmas
mod EndpointOrder
mod EndpointRows
mod EndpointTable
mod EventLemmas
mod FlowLemmas
mod FlowPlacesLemmas
mod NetworkLemmas
mod ProtocolExamples
mod RankingLemmas
mod RankingOrder
mod RankingRows
mod RankingSort
pub mod SummaryExamples
mod TimeSpanLemmas

pub mod CapturePacketsExist
pub mod CapturePacketsLaws
pub mod CapturePacketsLemmas
mod ClassicExamples
pub mod CommentsLaws
pub mod CommentsLemmas
pub mod InterfaceLaws
pub mod OpeningLemmas
pub mod PacketsOfBlocksLaws
pub mod PacketsOfBlocksLemmas
pub mod PcapngBlocksLemmas
mod PcapngExamples
pub mod PcapngLaws
pub mod PcapngLemmas
pub mod PcapngReadingLemmas
pub mod PieceLaws
pub mod PlacesLaws
pub mod ReaderLaws
pub mod ReaderLemmas
pub mod ReadingLaws
pub mod ReadingLemmas
pub mod RecordLemmas
pub mod SectionLaws
pub mod StepLaws
pub mod TextsExamples
pub mod TextsLemmas

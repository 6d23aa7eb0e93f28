pub mod ChartLemmas
pub mod CountingLemmas
pub mod ReadingLemmas
pub mod RowLemmas
pub mod SpanLemmas

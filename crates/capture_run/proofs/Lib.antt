mod LimitLemmas
mod PacketsTextLemmas
mod ReadLemmas
mod ReportLemmas
mod RunExamples
mod RunLemmas
mod TimelineLemmas

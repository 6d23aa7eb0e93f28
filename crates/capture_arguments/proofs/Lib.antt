mod ArgumentExamples
mod ChosenLemmas
mod CommandLemmas
mod ConflictLemmas
mod DateTimeExamples
mod DateTimeLemmas
mod IntervalLemmas
mod WordLemmas

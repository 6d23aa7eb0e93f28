mod OutputExamples
mod OutputLemmas

pub mod OneVerdict
pub mod RightChecksumLaws
pub mod ValidityLaw
pub mod VerdictLemmas

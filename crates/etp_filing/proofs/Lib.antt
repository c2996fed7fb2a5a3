pub mod FilingLemmas
pub mod FileAnswers
pub mod OneFile

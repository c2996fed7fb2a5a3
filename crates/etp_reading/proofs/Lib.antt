pub mod ReadingLemmas
pub mod OneRefusal
pub mod TallyLemmas
pub mod Theorems
pub mod FirstOf

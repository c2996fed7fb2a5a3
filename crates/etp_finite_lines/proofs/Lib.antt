pub mod PartedLemmas
pub mod OneFiniteLine

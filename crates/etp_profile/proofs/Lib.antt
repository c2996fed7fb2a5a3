pub mod PlaceLemmas
pub mod ProfileLemmas
pub mod OneProfile

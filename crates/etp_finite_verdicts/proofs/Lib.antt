pub mod FirstSaid
pub mod OneFiniteBody
pub mod OneLemma
pub mod OneProof
pub mod Verdicts

pub mod Known
pub mod FiniteReplay
pub mod FiniteValidity

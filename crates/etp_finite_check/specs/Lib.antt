pub mod FiniteChecks
pub mod FiniteRefusals

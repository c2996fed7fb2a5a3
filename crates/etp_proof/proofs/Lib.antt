pub mod LastStep
pub mod LastTerm

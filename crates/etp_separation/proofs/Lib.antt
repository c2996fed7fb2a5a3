pub mod TableFacts
pub mod LinearFacts

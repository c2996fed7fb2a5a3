pub mod LastStep
pub mod WorkLemmas
pub mod ReaderLemmas
pub mod FirstLemmas
pub mod ModelRead
pub mod FiniteReading

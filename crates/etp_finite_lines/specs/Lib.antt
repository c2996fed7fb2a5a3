pub mod CancelLines
pub mod FiniteLines
pub mod Said

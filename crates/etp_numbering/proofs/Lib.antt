pub mod Results
pub mod NumberingLemmas
pub mod Few

pub mod LawLemmas
pub mod FileLemmas
pub mod PrintedLemmas
pub mod OneLaw

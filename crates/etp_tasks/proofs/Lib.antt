pub mod WritingLemmas
pub mod ListingLemmas

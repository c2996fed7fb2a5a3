pub mod TextLemmas
pub mod GivenLemmas
pub mod Values
pub mod Commas

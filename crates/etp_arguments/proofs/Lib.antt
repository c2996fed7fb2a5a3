pub mod ManyWords

pub mod CompletionTexts
pub mod Completions

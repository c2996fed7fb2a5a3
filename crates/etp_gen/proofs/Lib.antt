pub mod Drawing
pub mod Replacing
pub mod Valid
pub mod Unique
pub mod Growing
pub mod Names
pub mod ReadFiles
pub mod Computed

pub mod Extending
pub mod Outside
pub mod Growing
pub mod Naming
pub mod Goals
pub mod Judged
pub mod OneStep
pub mod OneVerdict

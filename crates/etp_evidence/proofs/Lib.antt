pub mod EdgeLines
pub mod Covering
pub mod Shown
pub mod SystemLaws
pub mod OneWhy

pub mod Extending
pub mod Misfits
pub mod Same
pub mod Tables

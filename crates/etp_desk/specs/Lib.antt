pub mod States
pub mod Desks

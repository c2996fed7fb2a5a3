pub mod Opened
pub mod Shapes
pub mod WordOrder

pub mod Names
pub mod Lexing
pub mod Running
pub mod Reaching
pub mod Answering
pub mod Writing
pub mod OneRefusal
pub mod Lengths

pub mod Singles
pub mod Triangular
pub mod Pairs
pub mod Unbound
pub mod Resolved
pub mod Rounds
pub mod Solutions
pub mod Most

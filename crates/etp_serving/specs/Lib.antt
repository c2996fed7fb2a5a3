pub mod Streams
pub mod Protocols
pub mod Sessions
pub mod Ends
pub mod SessionEnds
pub mod Loads
pub mod Endings

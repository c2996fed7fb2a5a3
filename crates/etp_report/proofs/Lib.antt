pub mod Sums
pub mod Lists
pub mod Classing
pub mod Partition
pub mod Records

pub mod Shelves
pub mod Replies
pub mod Given
pub mod Desks
pub mod Outcomes

pub mod LawReplies
pub mod FileLists
pub mod Printed

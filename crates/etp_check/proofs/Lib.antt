pub mod Rights
pub mod Systems
pub mod Verdicts
pub mod WrittenBack

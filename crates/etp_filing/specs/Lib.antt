pub mod FileReplies
pub mod Filings
pub mod Withdrawals

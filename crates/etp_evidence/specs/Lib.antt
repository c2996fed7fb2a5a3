pub mod Failing
pub mod WhyReplies

pub mod ReplyLemmas
pub mod StateAnswers
pub mod OneReply

pub mod ProfileReplies

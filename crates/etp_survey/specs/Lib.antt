pub mod PairReplies

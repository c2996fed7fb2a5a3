pub mod PairAnswers
pub mod ReportAnswers
pub mod OneAnswer

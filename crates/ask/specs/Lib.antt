pub mod AnswerText
pub mod Written

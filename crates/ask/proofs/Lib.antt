pub mod AnswerLaws
pub mod ReadBack
pub mod Unique

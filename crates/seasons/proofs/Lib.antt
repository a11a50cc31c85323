pub mod TermLaws
pub mod Unique

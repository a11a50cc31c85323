pub mod LineLaws
pub mod ListTextLaws
pub mod ReplyLaws
pub mod Unique

pub mod LineText
pub mod ListText
pub mod ReplyText

pub mod DeskReply
pub mod MarkWords
pub mod Question

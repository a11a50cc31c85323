pub mod Choice
pub mod Reply
pub mod Row

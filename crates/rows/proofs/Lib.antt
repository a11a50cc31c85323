pub mod Choice
pub mod Determined
pub mod Refused
pub mod Row
pub mod Below

pub mod Number
pub mod Ascii
pub mod Search
pub mod Line
pub mod Text
pub mod Numbers
pub mod Place
pub mod Choice

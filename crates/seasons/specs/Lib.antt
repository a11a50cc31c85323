pub mod Solstice
pub mod Terms

pub mod Lunation
pub mod TrueMoon

pub mod Integers
pub mod Signs
pub mod Sizes
pub mod Unique

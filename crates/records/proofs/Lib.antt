pub mod Structs
pub mod Runs
pub mod Unique

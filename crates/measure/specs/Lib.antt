pub mod Units
pub mod Epoch
pub mod Days

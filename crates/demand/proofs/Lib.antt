pub mod Names
pub mod Places
pub mod Listing
pub mod Demand

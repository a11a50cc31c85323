pub mod Steps
pub mod Count
pub mod Calendar
pub mod Lawful
pub mod Demand

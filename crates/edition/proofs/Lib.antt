pub mod MonthLength
pub mod Edition
pub mod Unique

pub mod RecordLaws
pub mod YearList
pub mod RunLaws
pub mod Asked
pub mod RunList
pub mod Unique

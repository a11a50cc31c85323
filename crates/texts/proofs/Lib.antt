pub mod DecimalLaws
pub mod TextLaws
pub mod Examples
pub mod Unique

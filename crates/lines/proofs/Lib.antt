pub mod LineLaws
pub mod BlockLaws
pub mod Kept
pub mod Unique

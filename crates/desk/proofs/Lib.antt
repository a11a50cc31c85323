mod Kept
mod Unique

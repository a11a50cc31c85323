pub mod Kind
pub mod Head
pub mod Month
pub mod Span
pub mod Date

pub mod ByteLaws
pub mod BytesBack
pub mod Fitting
pub mod YearReply
pub mod ReadBack
pub mod Unique

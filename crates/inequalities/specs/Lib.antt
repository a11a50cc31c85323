pub mod Law
pub mod Evaluation
pub mod Limits
pub mod Solar
pub mod Lunar
pub mod Motion

pub mod Admitted
pub mod Times
pub mod Quotient
pub mod Corrected
pub mod Bits
pub mod CorrectionStep
pub mod Figures
pub mod Unique

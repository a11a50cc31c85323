pub mod Hours
pub mod ExtraDays

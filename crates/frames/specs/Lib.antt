pub mod LineEnds
pub mod Digits
pub mod DayLine
pub mod MonthLine

pub mod LineEndLaws
pub mod DigitLaws
pub mod DayLineLaws
pub mod MonthLineLaws
pub mod FitLaws
pub mod RowLaws
pub mod Unique

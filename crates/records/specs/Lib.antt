pub mod MonthRecords

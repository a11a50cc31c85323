pub mod Examples
pub mod Others
pub mod Months
pub mod Printed
pub mod Desk
pub mod Sheets

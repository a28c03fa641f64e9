pub mod Dates
pub mod Seconds
pub mod Weekday

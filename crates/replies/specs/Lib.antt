pub mod Plain
pub mod Shown
pub mod Answers
pub mod Block
pub mod Periods
pub mod Fixed

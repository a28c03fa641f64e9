pub mod Parts
pub mod Rows
pub mod Limits
pub mod Totals
pub mod Archives
pub mod Places
pub mod Fours

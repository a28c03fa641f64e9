pub mod Rows
pub mod Delivery
pub mod Meters

pub mod Zones
pub mod Months

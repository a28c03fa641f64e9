pub mod Feeding
pub mod Messages

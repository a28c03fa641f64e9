pub mod Acknowledged
pub mod Other
pub mod Delivery
pub mod Outcome

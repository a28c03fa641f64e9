pub mod Making
pub mod Sent

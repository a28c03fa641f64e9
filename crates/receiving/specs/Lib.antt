pub mod Hearing
pub mod Receivers

pub mod Changed
pub mod Lines
pub mod Answers

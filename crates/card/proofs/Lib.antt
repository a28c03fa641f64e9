pub mod Strays
pub mod Fields
pub mod Places
pub mod Answers
pub mod Frames

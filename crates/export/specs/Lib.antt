pub mod Frames
pub mod Changed
pub mod Refusals

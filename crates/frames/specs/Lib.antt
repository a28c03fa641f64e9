pub mod Frames
pub mod Commands
pub mod Session

pub mod Sending
pub mod Blocks
pub mod Commands
pub mod Lines
pub mod Exactly

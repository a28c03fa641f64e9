pub mod Feeding
pub mod Held
pub mod Rules
pub mod Frames
pub mod Meant
pub mod Commands
pub mod Session
pub mod Dialogue

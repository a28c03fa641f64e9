pub mod Messages
pub mod Standing
pub mod Turns
pub mod Starting
pub mod Refusals

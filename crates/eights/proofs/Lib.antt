pub mod Lanes
pub mod Forms
pub mod Neighbours
pub mod Windows
pub mod Sending

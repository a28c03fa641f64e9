pub mod Rows
pub mod Frames
pub mod Delivery
pub mod Counting

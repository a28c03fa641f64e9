pub mod Grammar
pub mod Place
pub mod Columns
pub mod Fields
pub mod Frames
pub mod Refusals

pub mod Copying
pub mod Shape
pub mod Length
pub mod Hurt
pub mod Refusals

pub mod Begun
pub mod Lines
pub mod Widths

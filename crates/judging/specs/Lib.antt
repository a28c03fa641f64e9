pub mod Lines
pub mod Right

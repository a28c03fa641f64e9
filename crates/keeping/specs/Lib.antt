pub mod Making
pub mod Shown

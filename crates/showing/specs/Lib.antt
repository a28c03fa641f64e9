pub mod Refusals
pub mod Shown

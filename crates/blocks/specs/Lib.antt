pub mod Refusals
pub mod Stripping
pub mod Parts

pub mod Linear
pub mod Own
pub mod Counting
pub mod Split

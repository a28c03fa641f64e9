pub mod Acting
pub mod Settling

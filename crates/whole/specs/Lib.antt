pub mod Whole
pub mod Gathering
pub mod Looking
pub mod Promised

pub mod Building
pub mod Spoken
pub mod Messages

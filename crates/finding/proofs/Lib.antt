pub mod Seeking
pub mod Finding
pub mod Promised

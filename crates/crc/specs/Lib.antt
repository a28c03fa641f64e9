pub mod Crc
pub mod Splitting

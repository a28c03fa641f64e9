pub mod Quoted
pub mod Controls
pub mod Runs
pub mod Characters
pub mod Balance
pub mod Checksum

pub mod Parity
pub mod Xor
pub mod Runs
pub mod Evening

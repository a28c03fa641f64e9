pub mod Lengths
pub mod Joined
pub mod Characters
pub mod Good

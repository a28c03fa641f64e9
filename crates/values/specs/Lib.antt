pub mod Edition
pub mod Family
pub mod Registers
pub mod Texts
pub mod Reading
pub mod Numbers
pub mod Counters
pub mod Serials

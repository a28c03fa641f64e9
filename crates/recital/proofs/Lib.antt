pub mod Registers
pub mod Recital
pub mod Learnt
pub mod Finding

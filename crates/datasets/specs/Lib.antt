pub mod Sets
pub mod Good

pub mod Sets
pub mod Whole

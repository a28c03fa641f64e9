pub mod Handed
pub mod Sizes
pub mod Tables
pub mod Good
pub mod Periods
pub mod Long

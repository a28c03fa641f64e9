pub mod Matching
pub mod Writing
pub mod Decimal
pub mod Forms
pub mod Beginnings

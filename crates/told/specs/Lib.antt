pub mod Doing
pub mod Claims
pub mod Corollaries
pub mod Exactly

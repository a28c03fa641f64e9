pub mod Sizes
pub mod Link
pub mod Fours
pub mod WellFormed
pub mod Making
pub mod Setting
pub mod Closing
pub mod Pieces

pub mod Writes
pub mod Adding
pub mod Hurt
pub mod Ignoring
pub mod Months
pub mod Wire

pub mod Grammar
pub mod Place
pub mod Columns
pub mod Rest
pub mod Refusals

pub mod Classes
pub mod Leading
pub mod Deciding
pub mod Inside
pub mod Agreeing

pub mod First
pub mod Going
pub mod Refusals
pub mod Replies

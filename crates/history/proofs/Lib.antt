pub mod Saying
pub mod Examples

pub mod Saying
pub mod Frames
pub mod Past
pub mod Standing
pub mod Deeds
pub mod Told
pub mod Examples

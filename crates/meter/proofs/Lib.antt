pub mod SignOn
pub mod Known
pub mod Tests
pub mod Places
pub mod Done
pub mod Heard

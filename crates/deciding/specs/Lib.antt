pub mod Verdicts
pub mod Shape
pub mod Asking
pub mod Telling
pub mod Verdict

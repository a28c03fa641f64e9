pub mod Gathering
pub mod Filled
pub mod Finishing
pub mod Looking
pub mod Promised

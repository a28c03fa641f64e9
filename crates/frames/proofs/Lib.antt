pub mod Closing
pub mod Table
pub mod Sealing
pub mod Lines

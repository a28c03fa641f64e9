pub mod Real
pub mod Week

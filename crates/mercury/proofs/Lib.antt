pub mod Lengths
pub mod Ranges
pub mod Asks
pub mod Ways
pub mod Quantities
pub mod RoundTrip
pub mod Facts

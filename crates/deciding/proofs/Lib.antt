pub mod Energies
pub mod Choices

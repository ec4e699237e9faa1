pub mod Cuts
pub mod Gates
pub mod Minutes

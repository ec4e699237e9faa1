pub mod Thermals
pub mod ThermalLaws

pub mod Slots
pub mod Tapes

pub mod Slots
pub mod Latest
pub mod Tapes
pub mod Traces

pub mod Verdicts
pub mod Held
pub mod Writes
pub mod Puts
pub mod Rows
pub mod Sizes

pub mod Cuts
pub mod Feeds
pub mod Starts
pub mod Numerals
pub mod Rejoined

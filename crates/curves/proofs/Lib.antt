pub mod Costs
pub mod Curves
pub mod Decisions
pub mod Packing
pub mod Places
pub mod Priced
pub mod Products

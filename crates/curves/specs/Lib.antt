pub mod Costs
pub mod Curve
pub mod CurveLaws
pub mod Fits
pub mod PlaceLaws
pub mod Places
pub mod Priced
pub mod Steps

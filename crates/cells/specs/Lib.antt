pub mod Parts
pub mod Cut
pub mod Laws
pub mod Numbers

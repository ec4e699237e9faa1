pub mod Bodies
pub mod BodyLaws
pub mod Laws
pub mod Meaning
pub mod Widest

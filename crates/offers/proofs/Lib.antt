pub mod WidestAllowed

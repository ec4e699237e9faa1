pub mod Printed
pub mod Sole

pub mod Printed
pub mod Feeding
pub mod Inner

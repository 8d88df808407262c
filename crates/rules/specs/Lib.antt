pub mod Faults
pub mod Shape
pub mod Breaches

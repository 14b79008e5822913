-- Laws of the ranges, and of a field that is in its own.
pub mod Choices
pub mod Bounds
pub mod Products
pub mod Determined

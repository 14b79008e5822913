-- The laws that every crate cites.
pub mod Ints
pub mod Sums
pub mod Worst
pub mod Lists
pub mod Outcomes
pub mod Determined
pub mod Rounding

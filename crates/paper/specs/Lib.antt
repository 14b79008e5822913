-- The paper as definitions, in its words. A reader believes these, and no others. Sums holds what the paper takes for
-- granted; Units are its own, Records and Refusals its "The book" and its table, Rounding and Products "Amount at a point",
-- Windows and Trees "The window", Answers "What comes back", Listing "The evening listing".
pub mod Sums
pub mod Units
pub mod Records
pub mod Refusals
pub mod Rounding
pub mod Products
pub mod Windows
pub mod Trees
pub mod Answers
pub mod Listing

-- What is proved of one instrument: the laws of rounding that its amounts go by, its bounds, its closed form; and of a
-- sound book: that what is held and what is totalled fits, and that the marks add up by instrument.
pub mod Signs
pub mod Rounding
pub mod Ranges
pub mod Bounds
pub mod Closed
pub mod Gross
pub mod Book
pub mod Listed
pub mod Determined

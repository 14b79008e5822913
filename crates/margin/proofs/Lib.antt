-- What is proved of the call beside the functions' own contracts.
pub mod Answers
pub mod Shapes
pub mod Promises
pub mod Counted
pub mod Fits
pub mod Rooms
pub mod Determined

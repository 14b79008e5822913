-- What is proved of the listing beside the functions' own contracts.
pub mod Pages
pub mod Sounds
pub mod Lengths
pub mod Whole
pub mod Reasons
pub mod Edge
pub mod Determined

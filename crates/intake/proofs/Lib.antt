-- What is proved of the reading beside the functions' own contracts.
pub mod Reading
pub mod Determined

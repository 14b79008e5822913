-- What is proved of lines beside the functions' own contracts.
pub mod Fields
pub mod Determined

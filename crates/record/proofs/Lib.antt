-- What is proved of a record's readers beside the functions' own contracts.
pub mod Determined

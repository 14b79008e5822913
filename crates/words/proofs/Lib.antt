-- What is proved of words beside the functions' own contracts.
pub mod Determined

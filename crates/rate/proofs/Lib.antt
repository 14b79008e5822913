-- What is proved of rates beside the functions' own contracts.
pub mod Units
pub mod Determined

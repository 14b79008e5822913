-- What is proved of texts beside the functions' own contracts.
pub mod Decimal
pub mod Determined

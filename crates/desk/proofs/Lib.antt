-- What is proved of the call beside its own contract.
pub mod Determined

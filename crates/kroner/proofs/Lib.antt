-- What is proved of amounts as text beside the functions' own contracts.
pub mod Signs
pub mod Readings
pub mod Back
pub mod Determined

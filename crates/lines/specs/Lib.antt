-- What a line of words is.
pub mod Remarks

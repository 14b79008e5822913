-- What a text reads as.
pub mod Reading

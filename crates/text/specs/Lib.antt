-- What a text holds.
pub mod Text

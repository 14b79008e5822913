-- What a refusal is called.
pub mod Words

-- What the call for C and Rust promises.
pub mod Call

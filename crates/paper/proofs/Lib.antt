-- What is proved of the paper's definitions by themselves.
pub mod Table

-- How far standard input is read.
pub mod Input

-- What this crate's contracts say beyond the paper.
pub mod Holdings
pub mod Parts

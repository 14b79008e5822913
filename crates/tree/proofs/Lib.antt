-- What is proved of trees, over the paper's definitions: the rows' equation, the lowest total, and that all figures fit;
-- and of the code: a sound book's tree, the rows that stand in a buffer, and that each contract allows one outcome.
pub mod Only
pub mod Rows
pub mod Theorem
pub mod Bounds
pub mod Book
pub mod Buffers
pub mod Filled
pub mod Read
pub mod Determined

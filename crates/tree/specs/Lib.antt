-- What the tree's functions say of the buffers lent.
pub mod Buffers

-- What the one call promises, of a whole book, of one whose tail was counted, and of one item.
pub mod Run
pub mod Counted
pub mod Items

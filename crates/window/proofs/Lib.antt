-- What is proved of windows: that the paper's definitions mean what it says, and that each contract allows one outcome.
pub mod First
pub mod Part
pub mod Near
pub mod Slides
pub mod Determined

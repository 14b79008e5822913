-- What the window's functions say of slices.
pub mod Slides

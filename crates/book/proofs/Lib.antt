-- Laws of the scan, and of a book that it finds sound.
pub mod Counts
pub mod Verdicts
pub mod Layouts
pub mod Sound
pub mod Kept
pub mod Determined

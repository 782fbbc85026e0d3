pub mod Reads
pub mod Saved
pub mod Writes
pub mod Turns
pub mod Fields
pub mod Applied
pub mod ReadBack

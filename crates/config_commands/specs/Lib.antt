pub mod Written
pub mod Saved
pub mod Applied
pub mod Terms
pub mod Steps

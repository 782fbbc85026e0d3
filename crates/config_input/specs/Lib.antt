pub mod Work
pub mod Deserved
pub mod Names
pub mod Lines
pub mod Words

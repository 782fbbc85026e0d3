pub mod Numbers
pub mod Names
pub mod Lines
pub mod Deserved
pub mod Recording
pub mod Below

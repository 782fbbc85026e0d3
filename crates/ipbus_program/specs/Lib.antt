pub mod CheckTerms
pub mod CheckExamples
pub mod Commands
pub mod Outside
pub mod Owed
pub mod Ended
pub mod Outputs
pub mod Steps

pub mod Answers
pub mod Log
pub mod View

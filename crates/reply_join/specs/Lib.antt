pub mod Joining
pub mod Garbled
pub mod Progress
pub mod ByWords

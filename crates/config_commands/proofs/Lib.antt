pub mod Leaving
pub mod Owed
pub mod Refused
pub mod Texts
pub mod OneClient

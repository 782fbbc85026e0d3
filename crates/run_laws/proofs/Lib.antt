pub mod Names
pub mod Scripts
pub mod Buses
pub mod Leaving

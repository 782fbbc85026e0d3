pub mod Leaving
pub mod Pairs
pub mod Documents
pub mod Statuses

pub mod Records
pub mod Moves
pub mod Steps
pub mod Passes
pub mod Shares

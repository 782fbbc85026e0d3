pub mod Boards
pub mod Standings
pub mod Lanes
mod Sound
pub mod Numbers

pub mod Leaving
pub mod Tapped
pub mod Joint
pub mod Walks
pub mod Shown
pub mod Sends
pub mod Spelled
pub mod OneMore
pub mod Runs
pub mod Lanes
pub mod Lists
pub mod Traffic
mod Passing
mod Births
mod Behind

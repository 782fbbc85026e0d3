pub mod Numbers
pub mod Listeners
pub mod Places
pub mod States
pub mod Errors
pub mod Heard
pub mod Pace

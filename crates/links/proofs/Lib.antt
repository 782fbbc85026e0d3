pub mod Births
pub mod Sends
pub mod Passing
mod Reading
mod States
mod Receives
mod Calls
pub mod Sockets
mod GonePast

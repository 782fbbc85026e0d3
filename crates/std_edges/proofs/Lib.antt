mod Hearing
pub mod Sends

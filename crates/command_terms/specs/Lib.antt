pub mod Numbers
pub mod Outside
pub mod Terms
pub mod Leaving
pub mod Documents

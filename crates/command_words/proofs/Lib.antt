pub mod Alone
pub mod Below
pub mod Walks
pub mod Strays
pub mod Digits
pub mod Named
pub mod Bounds

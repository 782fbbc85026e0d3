pub mod Headline
pub mod Terms
pub mod Steps
pub mod Taps
pub mod Captures
pub mod Passing
pub mod Traffic

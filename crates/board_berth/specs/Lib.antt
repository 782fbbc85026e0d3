pub mod Greetings
pub mod Records
pub mod Berths
pub mod Calls
pub mod Laws
pub mod Manner
pub mod Examples

pub mod Digits
pub mod Lengths
pub mod Sessions
pub mod Told
pub mod OneAnswer
pub mod Owed
pub mod Refused

pub mod Values
pub mod Asked
pub mod OneAnswer
pub mod Planned

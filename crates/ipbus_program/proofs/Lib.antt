mod Listings
pub mod Causes
pub mod Deserved
pub mod OverLinks
pub mod Ending
pub mod Reading
pub mod Faults
pub mod Served
pub mod Answered

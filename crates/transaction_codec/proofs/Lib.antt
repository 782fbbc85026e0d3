pub mod Packing
pub mod Fields
pub mod Steps
pub mod Lists
mod OneMore
mod Transactions
pub mod Requests
pub mod Replies
pub mod Formats
mod ReadSoFar
pub mod Longest

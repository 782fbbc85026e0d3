pub mod Header
pub mod Request
pub mod Reply
pub mod Listing
pub mod First
pub mod Answer

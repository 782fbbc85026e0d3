pub mod Codes
pub mod Answers
pub mod Exchanges
pub mod Decisions
pub mod Serving
pub mod Inside
pub mod Examples

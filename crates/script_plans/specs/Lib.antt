pub mod Plan
pub mod Runs
pub mod Claims
pub mod Steps
pub mod Spans

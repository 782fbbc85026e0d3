pub mod Loads
mod Shares
mod Scripts
mod Sums
mod Ready
mod Plans
mod Replies
mod Lines
mod Totals
mod Words
mod Runs
mod Compiled
mod Answered

pub mod Lists
pub mod Places
pub mod Readings
mod Replies
mod Boards
pub mod Hubs
mod Worlds
mod Histories
mod Links
mod Kept
mod Grammar
mod Greetings
pub mod Flushing
pub mod OpenPlaces
mod Waiting
pub mod Accounts
mod Patience
mod Bodies
pub mod LateAnswers
mod AnsweredLate
mod Answered
pub mod BoardLogs
mod BoardSteps
mod BoardTurns
mod HeldReplies

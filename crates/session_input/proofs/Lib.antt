pub mod ToldFirst
pub mod Told
pub mod OneAnswer
pub mod Moved
pub mod OneText
pub mod Ruled
mod Served
mod Listed
mod Recorded
pub mod OnBoards
mod Alone
pub mod NoText

pub mod Sorting
mod Turns
mod Only
mod Sends
pub mod Alone
pub mod OwnPlaces
pub mod Merging
pub mod PlacesShown
pub mod OneRead
pub mod ReplyWords
pub mod Lists
mod Shown
pub mod Answering
pub mod Shaped
pub mod Asking
pub mod BusResults
pub mod BusLines
pub mod Spelled
pub mod Readiness
mod Placed
pub mod Own
pub mod Told
mod Rans
mod Lookups
mod Beside
mod Planned
pub mod Opening
mod Steps
mod Orders
mod Lates
mod Histories
pub mod Waits
pub mod Merges
mod Sealed
pub mod Calm
mod Growing
mod Machines
mod MachineLaws
pub mod OverLinks
mod Live
mod Ungarbled
pub mod LaneShown
mod LaneAlone
mod GoodLines
pub mod BoardLines
mod Lines
mod Rounds
mod ToldLines

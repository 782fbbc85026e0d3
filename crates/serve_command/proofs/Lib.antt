mod Leaving
pub mod Ports
mod Ready
mod Services
mod Counting
mod Lanes
mod Whole
mod OneFrame
mod AtLane
mod AtIdle
mod Asked
mod EachBoard
mod BoardLines
mod ByFrame
mod ByRules

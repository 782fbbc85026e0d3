mod OneVerdict
pub mod ByPlace
pub mod Marking
pub mod Replays
mod Walking
mod PlansMade
mod PlanOrder
mod TextOrder
mod Misplacing
mod PartialLines
mod FirstBroken
mod ShortBodies
mod Verdicts
mod Distinct
mod Keys
mod WellPlaced
mod Fields
mod PiecesDone
mod Wrong
mod Aligned
mod InText
mod UnreplayedLines
mod UnreplayedWalk
mod ApartBodies
mod ApartLines
mod InTime

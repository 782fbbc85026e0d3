pub mod Steps
pub mod Pieces
pub mod Parts
pub mod Whole
pub mod Finish
pub mod Unique
pub mod Asking
pub mod PlaceLemmas
pub mod Dealing
pub mod Function
pub mod Standing
pub mod AnyLemmas
mod EachBody
pub mod Sizes
mod Readable

mod Hex
pub mod Allowed
pub mod LineLemmas
mod Counts
mod StatusLemmas
pub mod Skipping
mod Reading
mod Rising
mod Covering
mod Denials
pub mod Printed
mod ListsLeft
mod PiecesSoFar
mod LatePieces
pub mod EndsInOrder
pub mod GoodResults
mod PrintedLines
pub mod ShownLines

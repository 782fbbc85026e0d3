mod PlannedBodies
mod ClientRows
mod OneMore
pub mod AskedRows
mod Books
pub mod TakenRows
mod Put
pub mod Done
pub mod Results

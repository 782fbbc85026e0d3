pub mod Planned
pub mod Taken
pub mod Books
pub mod OutcomeTable

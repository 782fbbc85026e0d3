pub mod Record
pub mod Pass
pub mod Rule
pub mod Steps
pub mod PassInside

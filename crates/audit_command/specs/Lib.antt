pub mod Numbers
pub mod Boards
pub mod Input
pub mod Lines
pub mod Headline
pub mod Terms

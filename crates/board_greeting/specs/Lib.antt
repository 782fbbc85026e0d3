pub mod Links
pub mod Boards
pub mod Standings
pub mod Reports

pub mod Clients
pub mod ClientExamples
pub mod Connections
pub mod Planned
pub mod Boards
pub mod Shown
pub mod ConnectionExamples

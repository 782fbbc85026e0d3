pub mod Faults
pub mod ReadNodes
pub mod Kept
pub mod Same
pub mod ValidNodes
pub mod Formats

pub mod Results
pub mod Entries
pub mod Shown
pub mod Faults
pub mod Reading
pub mod Walks

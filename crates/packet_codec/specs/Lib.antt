pub mod Header
pub mod Packet
pub mod Reading
pub mod Faults

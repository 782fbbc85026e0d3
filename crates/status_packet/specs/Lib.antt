pub mod Range
pub mod Packets
pub mod StatusBytes
pub mod Reading

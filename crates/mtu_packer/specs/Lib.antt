pub mod Accesses
pub mod Cutting
pub mod Packing
pub mod Packed
pub mod Progress
pub mod Span

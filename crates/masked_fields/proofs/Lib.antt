pub mod Shifts
pub mod Masks
pub mod FieldValues

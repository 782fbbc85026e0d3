pub mod Word
pub mod Lists
pub mod Faults
pub mod Numbers
pub mod Digits
pub mod Fronts

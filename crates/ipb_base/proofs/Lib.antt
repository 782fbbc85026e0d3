pub mod AllLemmas
pub mod WordLemmas
pub mod ReadDigits
pub mod Fronts
pub mod FrontWords

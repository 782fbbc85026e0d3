pub mod OpeningWords

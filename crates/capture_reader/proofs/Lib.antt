mod WithTexts
pub mod Pairs
pub mod Lines
pub mod Numbers
pub mod ItemLines
pub mod FirstLine
pub mod Places
pub mod RowLaws
pub mod WordLines
pub mod LineLaws
pub mod RowReading
pub mod Datagrams
pub mod OneText
pub mod OneFault
pub mod ExampleLemmas
mod TextsSoFar
mod DigitTables
mod AddedLines
mod AddedRows

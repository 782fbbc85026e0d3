pub mod FoundById
pub mod KnownNames
pub mod Parts
pub mod Lengths
pub mod Joined
pub mod ItemsRead
pub mod Decided
pub mod RuledScripts
pub mod RuleFaults
pub mod LeftOver
pub mod FirstRule
pub mod Fronts
pub mod Decimals
pub mod Written
pub mod NamesBack
pub mod Reread
pub mod RuleNumbers
mod Closed

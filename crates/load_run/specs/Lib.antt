pub mod Loading
pub mod Terms
pub mod Generated
pub mod Summary
pub mod Claims
pub mod Examples
pub mod ScriptLines

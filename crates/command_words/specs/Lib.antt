pub mod Commands
pub mod Forms
pub mod App
pub mod Read

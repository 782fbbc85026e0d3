pub mod Handed
mod Did
mod Partly
mod Awaits
mod Leaving
mod Planning
mod Limits
mod Before
mod Parts
mod Numbers
mod Places
mod Replies
mod Lines
mod Calm
pub mod OverLinks

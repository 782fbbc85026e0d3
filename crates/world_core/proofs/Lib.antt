mod Flushes
mod Hearing
mod Moves
mod OneMove
mod Refusals

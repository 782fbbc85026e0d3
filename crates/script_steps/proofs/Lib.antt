mod Ruling
mod Denied
mod StillAsked

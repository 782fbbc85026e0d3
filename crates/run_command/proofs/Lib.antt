pub mod Leaving
pub mod OneTranscript

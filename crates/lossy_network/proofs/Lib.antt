pub mod Airs
mod Store
pub mod AirHearing
mod Noise
mod Hearing
mod Takings
mod Fronts
mod Receipts
mod Calls
mod Tellings
mod Makes
mod Along
mod Copies
mod Deliveries
mod Numbers
mod Delays
mod Reached
pub mod Sends

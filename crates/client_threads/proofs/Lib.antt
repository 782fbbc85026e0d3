mod Actions
mod Positions
mod Each
mod Jobs
mod Ran
mod Results
mod Shares

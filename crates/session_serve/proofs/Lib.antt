mod Shares
pub mod Lists
pub mod Seating
pub mod Finishing
pub mod Standing
pub mod EachDone
pub mod Rules
pub mod AtHub
pub mod Planned
pub mod LanePlans
pub mod Reporting
pub mod Executing

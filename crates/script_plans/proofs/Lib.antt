pub mod Lookups
mod Denials
mod SpanLemmas
pub mod PlanLemmas
mod DispatchLemmas
mod Rising
mod FewWords
pub mod PackedDispatches
mod FewBodies
pub mod Covering
pub mod EachBody

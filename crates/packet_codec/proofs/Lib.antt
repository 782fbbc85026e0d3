pub mod HeaderLemmas
pub mod WordLemmas
pub mod StartLemmas
pub mod PacketLemmas

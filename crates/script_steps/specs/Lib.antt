pub mod Packing
pub mod Executable
pub mod Rulings
pub mod RuledScripts
pub mod Judging

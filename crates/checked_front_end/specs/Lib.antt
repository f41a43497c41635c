pub use Rattle.programs_well_typed.specs.interfaces_consistent as interfaces_consistent
pub mod Known
pub mod Numbers
pub mod Formed

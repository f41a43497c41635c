pub use Rattle.shared_types_agree.specs.declarations_well_formed as declarations_well_formed
pub use Rattle.shared_types_agree.specs.interfaces_consistent as interfaces_consistent
pub use Rattle.shared_types_agree.specs.program_typing as program_typing
pub use Rattle.shared_types_agree.specs.store_typing as store_typing
pub use Rattle.shared_types_agree.specs.well_formed as well_formed
pub mod programs
pub mod suppositions
pub mod units

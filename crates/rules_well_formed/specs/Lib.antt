pub use Rattle.well_formed.specs as well_formed
pub mod allocations
pub mod calls
pub mod methods
pub mod nodes
pub mod procedures
pub mod sets
pub mod standard
pub mod virtual_slots

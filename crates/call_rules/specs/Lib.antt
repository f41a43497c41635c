pub use Rattle.object_vmt.specs as object_vmt
pub use Rattle.scopes.specs as scopes
pub use Rattle.typing_rules.specs as typing_rules
pub mod Lists
pub mod Casts
pub mod Given
pub mod Laws
pub mod allocation_rules
pub mod method_rules
pub mod procedural_rules
pub mod procedure_rules
pub mod set_rules
pub mod standard_rules

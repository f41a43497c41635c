pub use Rattle.common_values.proofs as common_values_proofs
pub use Rattle.object_vmt.proofs as object_vmt_proofs
pub use Rattle.type_layout.proofs as type_layout_proofs
pub mod Turns
pub mod Parts
pub mod Bodies
pub mod Shown
pub mod Stores
pub mod Numbers
pub mod Steps
pub mod Loops

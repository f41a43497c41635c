pub use Rattle.type_soundness.proofs.object_vmt_proofs as object_vmt_proofs
pub use Rattle.type_soundness.proofs.store_typing_proofs as store_typing_proofs
pub use Rattle.type_soundness.proofs.type_layout_proofs as type_layout_proofs
pub mod Classes
pub mod Routines
pub mod Owners
pub mod Overlays
pub mod Values
pub mod Statements
pub mod Whole

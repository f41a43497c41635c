pub use Rattle.well_formed.proofs.object_vmt_proofs as object_vmt_proofs
pub use Rattle.store_typing.proofs as store_typing_proofs
pub use Rattle.well_formed.proofs.type_layout_proofs as type_layout_proofs

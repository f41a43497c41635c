pub use Rattle.program_typing.proofs.object_vmt_proofs as object_vmt_proofs
pub use Rattle.program_typing.proofs as program_typing_proofs
pub use Rattle.program_typing.proofs.store_typing_proofs as store_typing_proofs
pub use Rattle.program_typing.proofs.type_layout_proofs as type_layout_proofs

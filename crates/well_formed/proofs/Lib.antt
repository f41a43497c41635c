pub use Rattle.object_vmt.proofs as object_vmt_proofs
pub use Rattle.type_layout.proofs as type_layout_proofs
mod TypedLaws
mod ExampleLaws

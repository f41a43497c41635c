pub use Rattle.address_independence.proofs as address_independence_proofs
pub use Rattle.front_end.proofs as front_end_proofs
pub use Rattle.imported_types_agree.proofs as imported_types_agree_proofs
pub use Rattle.front_end.proofs.source_graph_proofs as source_graph_proofs
pub use Rattle.front_end.proofs.type_layout_proofs as type_layout_proofs
pub use Rattle.front_end.proofs.unit_interface_proofs as unit_interface_proofs

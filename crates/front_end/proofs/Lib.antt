pub use Rattle.source_graph.proofs as source_graph_proofs
pub use Rattle.tp_check_decl.proofs as tp_check_decl_proofs
pub use Rattle.type_layout.proofs as type_layout_proofs
pub use Rattle.typing_rules.proofs as typing_rules_proofs
pub use Rattle.unit_interface.proofs as unit_interface_proofs
pub mod Zipped
pub mod Steps
pub mod Whys

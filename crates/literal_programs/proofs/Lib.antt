pub use Rattle.typed_tree.proofs as typed_tree_proofs
pub mod Played
pub mod Meant
pub mod Read
pub mod Known

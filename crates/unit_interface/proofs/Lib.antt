pub use Rattle.type_layout.proofs as type_layout_proofs
pub mod CircleLaws
pub mod VisitLaws
pub mod OrderLaws
pub mod NeededLaws
pub mod MergeLaws
pub mod ResolveLaws
pub mod ScopeLaws
pub mod OverlayLaws
pub mod ReachLaws
pub mod ShownLaws
pub mod FittingLaws
pub mod FitLaws
pub mod KeptLaws
pub mod KeyLaws

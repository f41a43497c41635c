pub mod RunLaws
pub mod HeldLaws

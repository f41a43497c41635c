pub mod RunLaws
pub mod TrapLaws
pub mod RingLaws

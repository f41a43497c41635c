pub mod Steps
pub mod SlotLaws
pub mod Lines
pub mod Lawful
pub mod Failing
pub mod DispatchLaws
pub mod Overrides

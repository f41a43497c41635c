pub mod Members
pub mod Slots
pub mod Rules
pub mod Faults
pub mod Dispatch

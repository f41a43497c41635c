pub use Rattle.tp_outside.proofs as tp_outside_proofs
pub mod Failed
pub mod Answered
pub mod BytesAt
pub mod Composition
pub mod Conclusion
pub mod Reading
pub mod Services
pub mod WithBytes

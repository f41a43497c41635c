pub use Rattle.expression_parser.proofs as expression_parser_proofs
pub mod Faults
pub mod Listing
pub mod OneFault
pub mod Shapes
pub mod Sound
pub mod Units
pub mod Whole

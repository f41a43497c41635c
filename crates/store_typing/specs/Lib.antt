pub use Rattle.tp_meaning.specs.common_values as common_values
pub use Rattle.tp_meaning.specs as tp_meaning
pub mod classes
pub mod operators
pub mod standard
pub mod stores
pub mod types
pub mod units

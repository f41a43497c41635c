pub use Rattle.address_independence.specs as address_independence
pub mod congruence

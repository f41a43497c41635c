-- What crates above this one cite of those below it, by one name.
pub use Rattle.shared_types_agree.proofs.methods.Below.{listed}

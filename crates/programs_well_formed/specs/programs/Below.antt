-- What crates above this one cite of those below it, by one name.
pub use Rattle.interfaces_consistent.specs.interface_soundness.tables.Tables.{IsWellScopedUnit}

-- How many bytes values take.
use Rattle.std.specs.Prelude.{◌≡◌, ◌≤◌, ℕ, ◌+◌, ℤ, List, length}
use Rattle.type_layout.specs.declared.definitions.Host.{Host}
use Rattle.type_layout.specs.Storage.{width_of}
use Rattle.common_values.specs.Sets.{set_size, set_bytes}
use Rattle.constant_checker.specs.stored_values.Stored.{ordinal_bytes, string_bytes}

pub record AreWhole : Type 0 where
  pub ordinals : (one : Host) (n : ℤ) → length (ordinal_bytes one n) ≡ width_of one
  pub strings : (max : ℕ) (text : List ℕ) → length text ≤ max → length (string_bytes max text) ≡ max + 1
  pub sets : (low high : ℕ) (set : List ℕ) → length (set_bytes low high set) ≡ set_size low high

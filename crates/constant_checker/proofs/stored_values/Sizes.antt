-- How many bytes values take.
use Rattle.std.proofs.Common.{◌≡◌, ◌≤◌, ℕ, ◌+◌, ◌-◌, ℤ, List, length, refl, arith}
use Rattle.std.specs.Prelude.{replicate}
use Rattle.std.proofs.lemmas.List.{length-append, length-replicate}
use Rattle.std.proofs.lemmas.List.FromFn.{length-map-range_with_len}
use Rattle.type_layout.specs.declared.definitions.Host.{Host}
use Rattle.type_layout.specs.declared.definitions.Host.TheVariants as host
use Rattle.type_layout.specs.Storage.{width_of}
use Rattle.common_values.specs.Sets.{byte_of, set_size, set_byte}
use Rattle.constant_checker.specs.stored_values.Stored.{ordinal_bytes, string_bytes}
use Rattle.constant_checker.specs.stored_values.Laws.{AreWhole}

ordinals : (one : Host) (n : ℤ) → length (ordinal_bytes one n) ≡ width_of one
ordinals host.ShortInt n = refl
ordinals host.Byte n = refl
ordinals host.Integer n = refl
ordinals host.Word n = refl
ordinals host.LongInt n = refl
ordinals host.Char n = refl
ordinals host.Boolean n = refl
ordinals host.Enumeration n = refl

strings : (max : ℕ) (text : List ℕ) → length text ≤ max → length (string_bytes max text) ≡ max + 1
strings max text fits = omega (arith, length-append text (replicate (max - length text) 0), length-replicate {A = ℕ} (max - length text) 0)

pub whole : AreWhole
whole = record {
  ordinals = ordinals;
  strings = strings;
  sets = λ low high set. length-map-range_with_len (set_byte set) (byte_of low) (set_size low high);
}

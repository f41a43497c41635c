-- A table takes a type that keeps the limit, and no other one.
use Rattle.std.proofs.Common.{◌≡◌, ℕ, ◌<◌, min, cond, Result, Ok, Err, refl, inl, inr}
use Rattle.std.specs.Prelude.{◌↔◌, nat_lt}
use Rattle.std.proofs.lemmas.Bool.{cases_lt, lt-ltb, le-ltb}
use Rattle.type_layout.specs.declared.definitions.TypeId.{TypeId}
use Rattle.type_layout.specs.declared.table.TypeError.{TypeError}
use Rattle.type_layout.specs.declared.table.TypeError.TheVariants.{TooLarge}
use Rattle.type_layout.specs.Table.{Table}

abbrev pub IsRefused : ℕ → ℕ → Result TypeId TypeError → Type 0
IsRefused size most r = (bytes : ℕ) → (r ≡ Err (TooLarge bytes)) ↔ ((65520 < size) × (bytes ≡ min size most))

abbrev limited : ℕ → ℕ → Table → Result Table ℕ
limited size left table = cond (nat_lt 65520 size) (Err left) (Ok table)

pub limited-taken : (size most left : ℕ) (table new : Table) (id : TypeId) (r : Result TypeId TypeError) → r ≡ Ok id → IsRefused size most r → new ≡ table → limited size left table ≡ Ok new
limited-taken size most left table new id r is refused same =
    elim (cases_lt 65520 size) [
      | inl large ↦ absurd (let no = (refused (min size most)).1 (large, refl) in cc)
      | inr small ↦ rw (le-ltb _ _ small, same) refl
    ]

pub limited-refused : (size most left bytes : ℕ) (table : Table) (e : TypeError) (r : Result TypeId TypeError) → r ≡ Err e → e ≡ TooLarge bytes → IsRefused size most r → limited size left table ≡ Err left
limited-refused size most left bytes table e r is cause refused =
    let whole : r ≡ Err (TooLarge bytes) = cc in
    let large = ((refused bytes).0 whole).0 in
    rw (lt-ltb _ _ large) refl

-- Tables of names as they are copied.
use Rattle.std.proofs.Common.{◌≡◌, ℕ, zero, suc, Bool, true, false, List, [], ◌∷◌, take, Option, Some, None, is_some, refl, sym}
use Rattle.std.specs.Prelude.{slice_get}
use Rattle.std.specs.List.{AllByRecursion, IsDistinct}
use Rattle.std.specs.Map.{keys_of}
use Rattle.std.specs.Cmp.Lexicographic.{bytes_decides}
use Rattle.type_layout.specs.Words.{same_bytes}
use Rattle.scopes.specs.declared.entries.Entry.{Entry}
use Rattle.scopes.specs.Symbols.{SymbolList, entry_of}

other_way : (a b : List ℕ) → same_bytes a b ≡ false → same_bytes b a ≡ false
other_way a b differ = by (same_bytes b a) refl
  where
    by : (t : Bool) → same_bytes b a ≡ t → t ≡ false
    by false e = refl
    by true e =
        let same : a ≡ b = sym ((bytes_decides b a).0 e) in
        let yes : same_bytes a b ≡ true = (bytes_decides a b).1 same in
        cc

differs : (name : List ℕ) (symbols : SymbolList) (place : ℕ) (one : List ℕ × Entry)
    → AllByRecursion (λ other. same_bytes name other ≡ false) (keys_of symbols) → slice_get symbols place ≡ Some one → same_bytes name one.0 ≡ false
differs name [] zero one all at = cc
differs name [] (suc place) one all at = cc
differs name (first ∷ symbols) zero one all at =
    let same : first ≡ one = cc in
    rw (← same) all.0
differs name (first ∷ symbols) (suc place) one all at = differs name symbols place one all.1 at

-- a name stands nowhere before its place
pub new_at : (symbols : SymbolList) (place : ℕ) (one : List ℕ × Entry) → IsDistinct same_bytes (keys_of symbols)
    → slice_get symbols place ≡ Some one → entry_of (take place symbols) one.0 ≡ None
unfolding IsDistinct
new_at [] zero one distinct at = refl
new_at [] (suc place) one distinct at = refl
new_at (first ∷ symbols) zero one distinct at = refl
new_at (first ∷ symbols) (suc place) one distinct at =
    let differ : same_bytes one.0 first.0 ≡ false = other_way first.0 one.0 (differs first.0 symbols place one distinct.0 at) in
    rw differ (new_at symbols place one distinct.1 at)

pub none_at : {A : Type 0} → (o : Option A) → is_some o ≡ false → o ≡ None
none_at None e = refl
none_at (Some x) e = cc

-- How many types of a unit a table has.
use Rattle.std.proofs.Common.{◌≡◌, ◌∙◌, ℕ, zero, suc, ◌+◌, ◌≤◌, Bool, true, false, not, cond, nat_lt, nat_eq, List, [], ◌∷◌, ◌++◌, length, Option, Some, None, refl, sym, ap, arith, eq-eqb, eqb-true}
use Rattle.std.specs.Prelude.{slice_get, position, unwrap_or, is_some}
use Rattle.std.specs.List.{position_or_len, sum_by}
use Rattle.std.proofs.lemmas.Bool.{ltb-false}
use Rattle.std.proofs.lemmas.List.Folds.{position_or_len_push}
use Rattle.std.proofs.lemmas.List.Sums.{sum_by-append, sum_by_push, prefix_len-le-length}
use Rattle.unit_references.specs.type_layout.declared.definitions.TypeDef.{TypeDef}
use Rattle.unit_references.specs.type_layout.declared.definitions.Origin.{Origin}
use Rattle.unit_references.specs.type_layout.Words.{same_bytes}
use Rattle.unit_references.specs.type_layout.Table.{Table, place_of, with_unit, with_type}
use Rattle.units_well_formed.proofs.unit_interface_proofs.KeyLaws.{same_itself}
use Rattle.units_well_formed.specs.declaration_checker.type_denoters.Additions.{one_of, count_of}

-- ---- how many types of a unit there are

at_most : {A : Type 0} → (p : A → Bool) (xs : List A) → position_or_len p xs ≤ length xs
at_most p xs = prefix_len-le-length (λ x. not (p x)) xs

-- where a test holds first, at the end if nowhere
place_by : {A : Type 0} → (p : A → Bool) (xs : List A) → unwrap_or (position p xs) (length xs) ≡ position_or_len p xs
place_by p xs = by (nat_lt (position_or_len p xs) (length xs)) refl
  where
    by : (b : Bool) → nat_lt (position_or_len p xs) (length xs) ≡ b → unwrap_or (let o : Option ℕ = cond b (Some (position_or_len p xs)) None in o) (length xs) ≡ position_or_len p xs
    by true found = refl
    by false past =
        let low : position_or_len p xs ≤ length xs = at_most p xs in
        let high = ltb-false (position_or_len p xs) (length xs) past in
        omega (arith, low, high)

pushed : (b : Bool) (count place : ℕ) → nat_eq place count ≡ b → cond b (count + 0) place ≡ place
pushed true count place is = omega (arith, eqb-true place count is)
pushed false count place is = refl

first_place : (units : List (List ℕ)) (unit : List ℕ) → position_or_len (same_bytes unit) (units ++ unit ∷ []) ≡ position_or_len (same_bytes unit) units
first_place units unit =
    let place = position_or_len (same_bytes unit) units in
    position_or_len_push (same_bytes unit) units unit
    ∙ ap (λ (b : Bool). cond (nat_eq place (length units)) (length units + cond b 0 1) place) (same_itself unit)
    ∙ pushed (nat_eq place (length units)) (length units) place refl

-- a unit that was added keeps its place
same_place : (units : List (List ℕ)) (unit : List ℕ) → place_of (with_unit units unit) unit ≡ place_of units unit
same_place units unit = by (is_some (position (same_bytes unit) units))
  where
    by : (b : Bool) → place_of (cond b units (units ++ unit ∷ [])) unit ≡ place_of units unit
    by true = refl
    by false = place_by (same_bytes unit) (units ++ unit ∷ []) ∙ first_place units unit ∙ sym (place_by (same_bytes unit) units)

one_here : (place number : ℕ) → one_of place (record { unit = place; number = number }) ≡ 1
one_here place number = ap (λ (b : Bool). (let n : ℕ = cond b 1 0 in n)) (eq-eqb place place refl)

-- with a further type there is one more
pub count_next : (table : Table) (unit : List ℕ) (number : ℕ) (one : TypeDef) → count_of (with_type table unit number one) unit ≡ count_of table unit + 1
count_next table unit number one =
    let place = place_of table.units unit in
    let last : Origin = record { unit = place; number = number } in
    ap (λ (k : ℕ). sum_by (one_of k) (table.origins ++ last ∷ [])) (same_place table.units unit)
    ∙ sum_by_push (one_of place) table.origins last
    ∙ ap (λ (n : ℕ). sum_by (one_of place) table.origins + n) (one_here place number)

-- ---- behind more units, and more types

-- what is found stays where it is
found_first : {A : Type 0} → (p : A → Bool) (xs ys : List A) (k : ℕ) (x : A) → slice_get xs k ≡ Some x → p x ≡ true → position_or_len p (xs ++ ys) ≡ position_or_len p xs
found_first p [] ys k x at holds = absurd (cc)
found_first p (y ∷ xs) ys zero x at holds = by (p y) refl
  where
    by : (b : Bool) → p y ≡ b → cond (not b) (1 + position_or_len p (xs ++ ys)) 0 ≡ cond (not b) (1 + position_or_len p xs) 0
    by true e = refl
    by false e = let same : y ≡ x = cc in (let bad : false ≡ true = sym e ∙ ap p same ∙ holds in absurd (cc))
found_first p (y ∷ xs) ys (suc k) x at holds = by (p y) (found_first p xs ys k x at holds)
  where
    by : (b : Bool) → position_or_len p (xs ++ ys) ≡ position_or_len p xs → cond (not b) (1 + position_or_len p (xs ++ ys)) 0 ≡ cond (not b) (1 + position_or_len p xs) 0
    by true same = refl
    by false same = ap (λ (n : ℕ). 1 + n) same

-- a table with more units and types has no fewer of a unit that it names
pub count_grows : (table longer : Table) (units : List (List ℕ)) (origins : List Origin) (unit : List ℕ) (k : ℕ) → longer.units ≡ table.units ++ units → longer.origins ≡ table.origins ++ origins
    → slice_get table.units k ≡ Some unit → count_of table unit ≤ count_of longer unit
count_grows table longer units origins unit k more_units more_origins at =
    let place = place_of table.units unit in
    let same : place_of longer.units unit ≡ place =
    ap (λ (l : List (List ℕ)). place_of l unit) more_units
    ∙ place_by (same_bytes unit) (table.units ++ units) ∙ found_first (same_bytes unit) table.units units k unit at (same_itself unit) ∙ sym (place_by (same_bytes unit) table.units) in
    let is : count_of longer unit ≡ sum_by (one_of place) table.origins + sum_by (one_of place) origins =
    ap (λ (p : ℕ). sum_by (one_of p) longer.origins) same ∙ ap (λ (l : List Origin). sum_by (one_of place) l) more_origins ∙ sum_by-append (one_of place) table.origins origins in
    omega (arith, is)

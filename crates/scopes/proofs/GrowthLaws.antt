-- A table that was grown stays so as it grows.
use Rattle.std.proofs.Common.{◌≡◌, ℕ, zero, suc, ◌+◌, ◌<◌, ◌≤◌, List, [], ◌∷◌, ◌++◌, length, get_or, take, Option, Some, None, refl, arith, sym, ap, subst, ◌∙◌, length-append, append-nil}
use Rattle.std.specs.Prelude.{Result, Ok, Err, IfOk, OnErr, All, slice_get, position}
use Rattle.std.proofs.lemmas.List.Elements.{All-push, All-weaker}
use Rattle.std.proofs.lemmas.List.{get_or_append_left, take_all}
use Rattle.std.proofs.Math.Seq.{get_or-append_seam}
use Rattle.std.proofs.lemmas.List.Quantifiers.{position-Some}
use Rattle.std.specs.Cmp.Lexicographic.{bytes_decides}
use Rattle.type_layout.specs.declared.definitions.TypeDef.{TypeDef}
use Rattle.type_layout.specs.declared.definitions.Origin.{Origin}
use Rattle.type_layout.specs.Words.{same_bytes}
use Rattle.type_layout.specs.Table.{Table, IsAddable, place_of, with_unit, with_type}
use Rattle.type_layout.specs.declared.definitions.TypeId.{TypeId}
use Rattle.type_layout.specs.declared.table.TypeError.{TypeError}
use Rattle.scopes.proofs.BlockLaws.{take-next}
use Rattle.scopes.specs.Growth.{Addition, empty, with_addition, grown, AreAddable, addition_of, additions_in, additions, IsGrown}

-- ---- lists of additions

pub grown-append : (table : Table) (these those : List Addition) → grown table (these ++ those) ≡ grown (grown table these) those
grown-append table [] those = refl
grown-append table (first ∷ rest) those = grown-append (with_addition table first) rest those

pub addable-push : (table : Table) (these : List Addition) (one : Addition) → AreAddable table these
    → IsAddable (grown table these) one.origin one.one → AreAddable table (these ++ one ∷ [])
addable-push table [] one all addable = (addable, tt)
addable-push table (first ∷ rest) one all addable = (all.0, addable-push (with_addition table first) rest one all.1 addable)

-- each addition finds the table that those before it made
pub addable-at : (table : Table) (all : List Addition) (place : ℕ) (one : Addition) → AreAddable table all
    → slice_get all place ≡ Some one → IsAddable (grown table (take place all)) one.origin one.one
addable-at table [] place one addable at = absurd (no_item place at)
  where
    no_item : (place : ℕ) → slice_get (let none : List Addition = [] in none) place ≡ Some one → ⊥
    no_item zero e = cc
    no_item (suc k) e = cc
addable-at table (first ∷ rest) zero one addable at =
    let same : first ≡ one = cc in
    subst (λ (a : Addition). IsAddable table a.origin a.one) same addable.0
addable-at table (first ∷ rest) (suc place) one addable at = addable-at (with_addition table first) rest place one addable.1 at

pub grown-next : (table : Table) (all : List Addition) (place : ℕ) (one : Addition) → slice_get all place ≡ Some one
    → grown table (take (place + 1) all) ≡ with_addition (grown table (take place all)) one
grown-next table all place one at =
    let next : take (place + 1) all ≡ take place all ++ one ∷ [] = take-next all place one at in
    ap (grown table) next ∙ grown-append table (take place all) (one ∷ [])

-- ---- what was added to a table

additions_in-more : (units more : List (List ℕ)) (types : List TypeDef) (origins : List Origin)
    → All (λ (origin : Origin). origin.unit < length units) origins → additions_in (units ++ more) types origins ≡ additions_in units types origins
additions_in-more units more [] origins known = refl
additions_in-more units more (one ∷ types) [] known = refl
additions_in-more units more (one ∷ types) (origin ∷ origins) known =
    let name : get_or (units ++ more) origin.unit [] ≡ get_or units origin.unit [] = get_or_append_left units more [] origin.unit (known 0 origin (omega arith)) in
    let rest : All (λ (o : Origin). o.unit < length units) origins = λ k d h. known (suc k) d (omega arith) in
    rw (name, additions_in-more units more types origins rest) refl

additions_in-push : (units : List (List ℕ)) (types : List TypeDef) (origins : List Origin) (one : TypeDef) (origin : Origin)
    → length origins ≡ length types
    → additions_in units (types ++ one ∷ []) (origins ++ origin ∷ []) ≡ additions_in units types origins ++ addition_of units one origin ∷ []
additions_in-push units [] [] one origin paired = refl
additions_in-push units [] (o ∷ origins) one origin paired = absurd (omega arith)
additions_in-push units (t ∷ types) [] one origin paired = absurd (omega arith)
additions_in-push units (t ∷ types) (o ∷ origins) one origin paired =
    ap (λ (rest : List Addition). addition_of units t o ∷ rest) (additions_in-push units types origins one origin (omega arith))

-- the units after one was found or added
record IsPlaced (units : List (List ℕ)) (unit : List ℕ) : Type 0 where
  more : List (List ℕ)
  grows : with_unit units unit ≡ units ++ more
  within : place_of units unit < length (with_unit units unit)
  named : get_or (with_unit units unit) (place_of units unit) [] ≡ unit

placed : (units : List (List ℕ)) (unit : List ℕ) → IsPlaced units unit
placed units unit = by (position (same_bytes unit) units) refl
  where
    by : (o : Option ℕ) → position (same_bytes unit) units ≡ o → IsPlaced units unit
    by None e = record {
      more = unit ∷ [];
      grows = rw e refl;
      within = rw e (omega (arith, length-append units (unit ∷ [])));
      named = rw e (get_or-append_seam units unit [] []);
    }
    by (Some i) e =
        let found = position-Some (same_bytes unit) units i [] e in
        record {
          more = [];
          grows = rw e (sym (append-nil units));
          within = rw e found.0;
          named = rw e (sym ((bytes_decides unit (get_or units i [])).0 found.1));
        }

pub additions-with_type : (table : Table) (origin : List ℕ) (number : ℕ) (one : TypeDef) → IsGrown table
    → additions (with_type table origin number one) ≡ additions table ++ (record { origin = origin; number = number; one = one }) ∷ []
additions-with_type table origin number one h =
    let p = placed table.units origin in
    let o : Origin = record { unit = place_of table.units origin; number = number } in
    let pushed = additions_in-push (with_unit table.units origin) table.types table.origins one o h.paired in
    let more : additions_in (with_unit table.units origin) table.types table.origins ≡ additions_in table.units table.types table.origins =
    rw p.grows (additions_in-more table.units p.more table.types table.origins h.known) in
    pushed ∙ ap (λ (l : List Addition). l ++ addition_of (with_unit table.units origin) one o ∷ []) more
    ∙ ap (λ (n : List ℕ). additions table ++ (let a : Addition = record { origin = n; number = number; one = one } in a) ∷ []) p.named

pub grown-with_type : (table : Table) (origin : List ℕ) (number : ℕ) (one : TypeDef) → IsGrown table → IsAddable table origin one
    → IsGrown (with_type table origin number one)
grown-with_type table origin number one h addable =
    let a : Addition = record { origin = origin; number = number; one = one } in
    let p = placed table.units origin in
    let o : Origin = record { unit = place_of table.units origin; number = number } in
    let added = additions-with_type table origin number one h in
    let more : length table.units ≤ length (with_unit table.units origin) = omega (arith, ap length p.grows, length-append table.units p.more) in
    record {
      whole = rw added (grown-append empty (additions table) (a ∷ []) ∙ ap (λ (t : Table). with_addition t a) h.whole);
      addable = rw added (addable-push empty (additions table) a h.addable (rw h.whole addable));
      paired = omega (arith, h.paired, length-append table.origins (o ∷ []), length-append table.types (one ∷ []));
      known = All-push (λ (x : Origin). x.unit < length (with_unit table.units origin)) table.origins o
          (All-weaker (λ (x : Origin). x.unit < length table.units) (λ (x : Origin). x.unit < length (with_unit table.units origin))
          (λ x k. omega (arith, more)) table.origins h.known)
          p.within;
    }

pub grown-all : (table : Table) (all : List Addition) → IsGrown table → AreAddable table all → IsGrown (grown table all)
grown-all table [] h addable = h
grown-all table (first ∷ rest) h addable =
    grown-all (with_addition table first) rest (grown-with_type table first.origin first.number first.one h addable.0) addable.1

pub grown-empty : IsGrown empty
grown-empty = record { whole = refl; addable = tt; paired = refl; known = λ k d h. absurd (omega arith) }

pub additions-at : (units : List (List ℕ)) (types : List TypeDef) (origins : List Origin) (place : ℕ) (one : TypeDef) (origin : Origin)
    → slice_get types place ≡ Some one → slice_get origins place ≡ Some origin
    → slice_get (additions_in units types origins) place ≡ Some (addition_of units one origin)
additions-at units [] origins zero one origin at from = cc
additions-at units [] origins (suc place) one origin at from = cc
additions-at units (t ∷ types) [] zero one origin at from = cc
additions-at units (t ∷ types) [] (suc place) one origin at from = cc
additions-at units (t ∷ types) (o ∷ origins) zero one origin at from =
    let same_type : t ≡ one = cc in
    let same_origin : o ≡ origin = cc in
    rw (same_type, same_origin) refl
additions-at units (t ∷ types) (o ∷ origins) (suc place) one origin at from = additions-at units types origins place one origin at from

pub length-additions : (units : List (List ℕ)) (types : List TypeDef) (origins : List Origin) → length origins ≡ length types
    → length (additions_in units types origins) ≡ length types
length-additions units [] origins paired = refl
length-additions units (t ∷ types) [] paired = absurd (omega arith)
length-additions units (t ∷ types) (o ∷ origins) paired = ap suc (length-additions units types origins (omega arith))

-- ---- the step of a copy

pub known-at : (table : Table) (number : ℕ) (origin : Origin) → IsGrown table → slice_get table.origins number ≡ Some origin
    → origin.unit < length table.units
known-at table number origin h at = within table.origins number at h.known
  where
    within : (origins : List Origin) (number : ℕ) → slice_get origins number ≡ Some origin
        → All (λ (o : Origin). o.unit < length table.units) origins → origin.unit < length table.units
    within [] zero at all = cc
    within [] (suc number) at all = cc
    within (o ∷ origins) zero at all =
        let same : o ≡ origin = cc in
        rw (← same) (all 0 o (omega arith))
    within (o ∷ origins) (suc number) at all = within origins number at (λ k d h. all (suc k) d (omega arith))

get_or-same : {A : Type 0} → (xs : List A) (place : ℕ) (one other : A) → place < length xs → get_or xs place one ≡ get_or xs place other
get_or-same [] place one other h = absurd (omega arith)
get_or-same (x ∷ xs) zero one other h = refl
get_or-same (x ∷ xs) (suc place) one other h = get_or-same xs place one other (omega arith)

-- the next of the types, and the table with it
pub copy-step : (table : Table) (number : ℕ) (one : TypeDef) (origin : Origin) (name : List ℕ) → IsGrown table
    → slice_get table.types number ≡ Some one → slice_get table.origins number ≡ Some origin → name ≡ get_or table.units origin.unit name
    → IsAddable (grown empty (take number (additions table))) name one
    × (grown empty (take (number + 1) (additions table)) ≡ with_type (grown empty (take number (additions table))) name origin.number one)
copy-step table number one origin name h at from named =
    let within = known-at table number origin h from in
    let same : name ≡ get_or table.units origin.unit [] = named ∙ get_or-same table.units origin.unit name [] within in
    let there = additions-at table.units table.types table.origins number one origin at from in
    let addable = addable-at empty (additions table) number (addition_of table.units one origin) h.addable there in
    let next = grown-next empty (additions table) number (addition_of table.units one origin) there in
    (rw same addable, rw same next)

pub copy-end : (table : Table) → IsGrown table → grown empty (take (length table.types) (additions table)) ≡ table
copy-end table h =
    let count : length (additions table) ≡ length table.types = length-additions table.units table.types table.origins h.paired in
    rw (take_all (length table.types) (additions table) (omega arith)) h.whole

-- a table stays grown, whether a type was added or not
pub grown-after : (table new : Table) (origin : List ℕ) (number : ℕ) (one : TypeDef) (result : Result TypeId TypeError) → IsGrown table
    → IsAddable table origin one → IfOk result (λ id. (id.0 ≡ length table.types) × (new ≡ with_type table origin number one))
    → OnErr result (new ≡ table) → IsGrown new
grown-after table new origin number one (Ok id) h addable ok err = rw ok.1 (grown-with_type table origin number one h addable)
grown-after table new origin number one (Err e) h addable ok err = rw err h

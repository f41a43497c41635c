-- What a unit shows is closed where the unit is.
use Rattle.std.proofs.Common.{◌≡◌, ◌∙◌, ℕ, zero, suc, ◌+◌, ◌-◌, ◌<◌, ◌≤◌, ℤ, Bool, true, false, cond, nat_eq, eqb-true, List, [], ◌∷◌, ◌++◌, map, length, get_or, Option, Some, refl, sym, ap, subst, arith, length-append}
use Rattle.std.specs.Prelude.{◌↔◌, ◌||◌, slice_get}
use Rattle.std.proofs.Math.Seq.{get_or-append_seam}
use Rattle.std.proofs.lemmas.Bool.{eq-eqb}
use Rattle.std.proofs.lemmas.List.{get_or_append_left}
use Rattle.tables_closed.specs.type_layout.declared.definitions.TypeId.{TypeId}
use Rattle.tables_closed.specs.type_layout.declared.definitions.Host.TheVariants as host
use Rattle.tables_closed.specs.type_layout.declared.definitions.Origin.{Origin}
use Rattle.tables_closed.specs.type_layout.declared.definitions.TypeDef.{TypeDef}
use Rattle.tables_closed.specs.type_layout.declared.definitions.TypeDef.TheVariants.{Ordinal}
use Rattle.tables_closed.specs.type_layout.Table.{Table, place_of, with_type}
use Rattle.tables_closed.specs.typed_tree.declared.units.Unit as typed
use Rattle.tables_closed.specs.unit_interface.declared.interfaces.Interface.{Interface}
use Rattle.tables_closed.specs.unit_interface.Merge.{new_id, renumbered, with_listed}
use Rattle.tables_closed.specs.unit_interface.Exports as exports
use Rattle.tables_closed.specs.unit_interface.Exports.{in_type, in_items, behind, is_in, IsReached, kept_before, new_ids, with_kept, kept, renumbered_item, shown, IsInterfaceOf}
use Rattle.tables_closed.proofs.unit_interface_proofs.ReachLaws.{goes_along}
use Rattle.tables_closed.specs.constants.Bounds.{AreBelow}
use Rattle.tables_closed.proofs.constants.Below.{at_push, below_both}
use Rattle.imported_types_agree.specs.well_scoped.Scopes.{IsWellScopedInterface}
use Rattle.imported_types_agree.proofs.well_scoped.Merging.{has}
use Rattle.imported_types_agree.proofs.well_scoped.Renumbering.{AllOf, all_first, new_type, shown_items}
use Rattle.imported_types_agree.proofs.well_scoped.Using.{TypesBelow, new_behind}

-- ---- lists of numbers

or_true : (b : Bool) → (b || true) ≡ true
or_true true = refl
or_true false = refl

all_of : (P : ℕ → Type 0) (xs : List ℕ) → ((x : ℕ) → is_in xs x ≡ true → P x) → AllOf P xs
all_of P [] h = tt
all_of P (x ∷ xs) h =
    (h x (ap (λ (b : Bool). b || is_in xs x) (eq-eqb x x refl)), all_of P xs (λ y met. h y (ap (λ (b : Bool). nat_eq y x || b) met ∙ or_true (nat_eq y x))))

below_in : (n : ℕ) (numbers : List ℕ) (number : ℕ) → AreBelow n numbers → is_in numbers number ≡ true → number < n
below_in n [] number h e = cc
below_in n (first ∷ rest) number h e = by (nat_eq number first) refl e (λ f. below_in n rest number h.1 f)
  where
    by : (b : Bool) → nat_eq number first ≡ b → (b || is_in rest number) ≡ true → (is_in rest number ≡ true → number < n) → number < n
    by true same f more = let is = eqb-true number first same in let low = h.0 in omega arith
    by false same f more = more f

-- ---- numbers of kept types

module _ (reached : List ℕ) where
  length-ids : (n : ℕ) → length (new_ids reached n) ≡ n
  length-ids zero = refl
  length-ids (suc n) =
      let one : TypeId = record { 0 = kept_before reached n } in
      let before = length-ids n in
      omega (arith, length-append (new_ids reached n) (one ∷ []))

  -- the id behind so many more
  id_before : (x more n : ℕ) (d : TypeId) → n ≡ suc x + more → (get_or (new_ids reached n) x d).0 ≡ kept_before reached x
  id_before x zero n d e =
      let one : TypeId = record { 0 = kept_before reached x } in
      let same : n ≡ suc x = omega arith in
      let at : get_or (new_ids reached x ++ one ∷ []) (length (new_ids reached x)) d ≡ one = get_or-append_seam (new_ids reached x) one [] d in
      ap (λ (k : ℕ). (get_or (new_ids reached k) x d).0) same
      ∙ ap (λ (k : ℕ). (get_or (new_ids reached x ++ one ∷ []) k d).0) (sym (length-ids x)) ∙ ap (λ (ty : TypeId). ty.0) at
  id_before x (suc more) n d e =
      let one : TypeId = record { 0 = kept_before reached (suc x + more) } in
      let same : n ≡ suc (suc x + more) = omega arith in
      let long = length-ids (suc x + more) in
      ap (λ (k : ℕ). (get_or (new_ids reached k) x d).0) same
      ∙ ap (λ (ty : TypeId). ty.0) (get_or_append_left (new_ids reached (suc x + more)) (one ∷ []) d x (omega arith))
      ∙ id_before x more (suc x + more) d refl

  one_more : (k : ℕ) → is_in reached k ≡ true → kept_before reached (suc k) ≡ kept_before reached k + 1
  one_more k e = ap (λ (b : Bool). kept_before reached k + cond b 1 0) e

  no_fewer : (j more : ℕ) → kept_before reached j ≤ kept_before reached (j + more)
  no_fewer j zero = let same : kept_before reached j ≡ kept_before reached (j + 0) = ap (kept_before reached) (let e : j ≡ j + 0 = omega arith in e) in omega arith
  no_fewer j (suc more) =
      let rest = no_fewer j more in
      let same : kept_before reached (suc (j + more)) ≡ kept_before reached (j + suc more) = ap (kept_before reached) (let e : suc (j + more) ≡ j + suc more = omega arith in e) in
      omega arith

  before_all : (k n : ℕ) → k < n → is_in reached k ≡ true → kept_before reached k < kept_before reached n
  before_all k n low e =
      let more : ℕ = n - suc k in
      let next = one_more k e in
      let rest = no_fewer (suc k) more in
      let same : kept_before reached (suc k + more) ≡ kept_before reached n = ap (kept_before reached) (let f : suc k + more ≡ n = omega arith in f) in
      omega arith

-- ---- what is shown

module _ (unit : typed.Unit) (paired : length unit.types.origins ≡ length unit.types.types) (items : AreBelow (length unit.types.types) (in_items unit.items)) (types : TypesBelow (length unit.types.types) unit.types.types)
    (reached : List ℕ) (exactly : (number : ℕ) → number < length unit.types.types → (is_in reached number ≡ true) ↔ IsReached unit.types.types unit.items number) where
  abbrev count : ℕ
  count = length unit.types.types

  abbrev all : ℕ
  all = kept_before reached count

  abbrev ids : List TypeId
  ids = new_ids reached count

  -- a type of the table that is shown
  abbrev IsShown : ℕ → Type 0
  IsShown x = (x < count) × (is_in reached x ≡ true)

  low_id : (ty : TypeId) → IsShown ty.0 → (new_id ids ty).0 < all
  low_id ty h =
      let below = h.0 in
      let more : ℕ = count - suc ty.0 in
      let is = id_before reached ty.0 more count ty (omega arith) in
      let low = before_all reached ty.0 count below h.1 in
      omega arith

  items_shown : AllOf IsShown (in_items unit.items)
  items_shown =
      all_of IsShown (in_items unit.items)
      (λ x met. let low = below_in count (in_items unit.items) x items met in (low, (exactly x low).1 (record { steps = 0; within = (met, low) })))

  beside_shown : (number : ℕ) (one : TypeDef) → IsShown number → slice_get unit.types.types number ≡ Some one → AllOf IsShown (exports.with_type number (Some one))
  beside_shown number one h at =
      let r = (exactly number h.0).0 h.1 in
      let named : AreBelow count (exports.with_type number (Some one)) = subst (λ (o : Option TypeDef). AreBelow count (exports.with_type number o)) at (types number) in
      all_of IsShown (exports.with_type number (Some one))
      (λ x met.
      let low = below_in count (exports.with_type number (Some one)) x named met in
      let goes : is_in (exports.with_type number (slice_get unit.types.types number)) x ≡ true = subst (λ (o : Option TypeDef). is_in (exports.with_type number o) x ≡ true) (sym at) met in
      (low, (exactly x low).1 (record { steps = suc r.steps; within = (number, r.within, goes_along unit.types.types number x (slice_get unit.types.types number) goes, low) })))

  -- a type with its new ids, and how many there are
  record IsKeptTo (number : ℕ) (table : Table) : Type 0 where
    counted : length table.types ≡ kept_before reached number
    beside : length table.origins ≡ length table.types
    below : TypesBelow all table.types

  keep : (number : ℕ) (table : Table) (one : TypeDef) (name : List ℕ) (origin : ℕ) → slice_get unit.types.types number ≡ Some one → IsShown number → IsKeptTo number table
      → IsKeptTo (suc number) (with_type table name origin (renumbered ids (place_of table.units name) one))
  keep number table one name origin at h k =
      let place = place_of table.units name in
      let own : Origin = record { unit = place; number = origin } in
      let beside = k.beside in
      let shown = beside_shown number one h at in
      let next = one_more reached number h.1 in
      let same = k.counted in
      let followed : (low high : ℤ) → one ≡ Ordinal host.Enumeration low high → length table.types + 1 < all =
      λ low high is.
      let two : AllOf IsShown (exports.with_type number (Some (Ordinal host.Enumeration low high))) = subst (λ (t : TypeDef). AllOf IsShown (exports.with_type number (Some t))) is shown in
      let there : kept_before reached (number + 1) < all = before_all reached (number + 1) count two.0.0 two.0.1 in
      let here : kept_before reached (suc number) ≡ kept_before reached (number + 1) = ap (kept_before reached) (let e : suc number ≡ number + 1 = omega arith in e) in
      omega arith in
      record {
        counted = omega (arith, length-append table.types (renumbered ids place one ∷ []));
        beside = omega (arith, length-append table.types (renumbered ids place one ∷ []), length-append table.origins (own ∷ []));
        below = at_push (λ by found. AreBelow all (exports.with_type by found)) table.types (renumbered ids place one) k.below
            (below_both all (in_type (renumbered ids place one)) (behind (length table.types) (renumbered ids place one))
            (new_type IsShown all ids low_id place one (all_first IsShown (in_type one) (behind number one) shown))
            (new_behind all (length table.types) ids place one followed))
            (λ by. tt);
      }

  by_flag : (number : ℕ) (b : Bool) (table more : Table) → is_in reached number ≡ b → IsKeptTo number table → (b ≡ true → IsKeptTo (suc number) more) → IsKeptTo (suc number) (cond b more table)
  by_flag number true table more e k h = h refl
  by_flag number false table more e k h =
      let same : kept_before reached (suc number) ≡ kept_before reached number + 0 = ap (λ (b : Bool). kept_before reached number + cond b 1 0) e in
      let before = k.counted in
      record { counted = omega arith; beside = k.beside; below = k.below }

  kept_to : (number : ℕ) → number ≤ count → IsKeptTo number (kept unit.types reached ids number)
  kept_to zero low = record { counted = refl; beside = refl; below = λ by. tt }
  kept_to (suc number) low =
      let table = kept unit.types reached ids number in
      let before = kept_to number (omega arith) in
      let one = has unit.types.types number (omega arith) in
      let o = has unit.types.origins number (omega arith) in
      let name = get_or unit.types.units o.one.unit [] in
      let is : with_kept unit.types ids table number ≡ with_type table name o.one.number (renumbered ids (place_of table.units name) one.one) =
      ap (λ (x : Option TypeDef). with_listed ids table unit.types.units x (slice_get unit.types.origins number)) one.at
      ∙ ap (λ (x : Option Origin). with_listed ids table unit.types.units (Some one.one) x) o.at in
      let P : Table → Type 0 = λ t. IsKeptTo (suc number) t in
      by_flag number (is_in reached number) table (with_kept unit.types ids table number) refl before
      (λ met. subst P (sym is) (keep number table one.one name o.one.number one.at ((omega arith), met) before))

  closed_so : IsWellScopedInterface (shown unit reached)
  closed_so =
      let k = kept_to count (omega arith) in
      let long = k.counted in
      record {
        paired = k.beside;
        items = subst (λ (n : ℕ). AreBelow n (in_items (map (renumbered_item ids) unit.items))) (sym long) (shown_items IsShown all ids low_id unit.items items_shown);
        types = subst (λ (n : ℕ). TypesBelow n (kept unit.types reached ids count).types) (sym long) k.below;
      }

pub shown_closed : (unit : typed.Unit) (interface : Interface) → length unit.types.origins ≡ length unit.types.types → AreBelow (length unit.types.types) (in_items unit.items)
    → TypesBelow (length unit.types.types) unit.types.types → IsInterfaceOf unit interface → IsWellScopedInterface interface
shown_closed unit interface paired items types h = subst IsWellScopedInterface (sym h.is) (closed_so unit paired items types h.reached h.exactly)

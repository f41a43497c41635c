-- The constants of a unit are constants where its interface is used.
use Rattle.std.proofs.Common.{add-one, ◌≡◌, ◌∙◌, ℕ, suc, ◌+◌, ◌<◌, Bool, true, false, ◌||◌, cond, List, [], ◌∷◌, ◌++◌, length, map, get_or, Option, Some, None, refl, sym, ap, subst, arith}
use Rattle.std.proofs.Math.IntN.{ℤ}
use Rattle.std.specs.Prelude.{slice_get, nat_eq}
use Rattle.std.proofs.lemmas.Bool.{eq-eqb}
use Rattle.std.proofs.lemmas.Option.{slice_get_within}
use Rattle.bodies_well_formed.specs.type_layout.declared.definitions.TypeId.{TypeId}
use Rattle.bodies_well_formed.specs.type_layout.declared.definitions.Host.TheVariants as host
use Rattle.bodies_well_formed.specs.type_layout.declared.definitions.TypeDef.{TypeDef}
use Rattle.bodies_well_formed.specs.type_layout.declared.definitions.TypeDef.TheVariants as type
use Rattle.bodies_well_formed.specs.type_layout.Layouts.{bounds_of}
use Rattle.bodies_well_formed.specs.type_layout.Table.{Table}
use Rattle.bodies_well_formed.specs.typed_tree.declared.expressions.Value.{Value}
use Rattle.bodies_well_formed.specs.typed_tree.declared.units.Item.{Item}
use Rattle.bodies_well_formed.specs.typed_tree.declared.units.Item.TheVariants as item
use Rattle.bodies_well_formed.specs.typed_tree.declared.units.Unit.{Unit as TypedUnit}
use Rattle.bodies_well_formed.specs.typed_tree.declared.expressions.Value.TheVariants as value
use Rattle.bodies_well_formed.specs.typed_tree.type_fits.Fits.{definition, IsValue}
use Rattle.bodies_well_formed.specs.scopes.Predeclared.{type_id}
use Rattle.bodies_well_formed.specs.typing_rules.Sorts.{char, boolean}
use Rattle.imported_types_agree.specs.unit_interface.declared.interfaces.Interface.{Interface}
use Rattle.imported_types_agree.specs.unit_interface.Merge.{new_id, renumbered, ids_in, with_types}
use Rattle.imported_types_agree.specs.unit_interface.Exports.{in_items, in_item, with_type, is_in, kept_before, new_ids, kept, IsReached, renumbered_item, shown, IsInterfaceOf}
use Rattle.imported_types_agree.proofs.unit_interface_proofs.ReachLaws.{goes_along}
use Rattle.declarations_well_formed.specs.exported_constants.Moves.{IsLike, IsTold, AreTold}
use Rattle.declarations_well_formed.specs.exported_constants.Agreed.{IsThere, IsKnownAlike, AreBeside, IsPaired, IsWhole, IsKnownOf, AreConstantsIn, AreOwnConstants}
use Rattle.imported_types_agree.proofs.well_scoped.Merging.{has}
use Rattle.declarations_well_formed.proofs.exported_constants.Kept.{new_id_is, kept_at}
use Rattle.declarations_well_formed.proofs.exported_constants.Arriving.{met_at}
use Rattle.declarations_well_formed.proofs.exported_constants.Moved.{constant_moves}

-- a type under other ids, twice
like_twice : (ids kids : List TypeId) (v u : ℕ) (one : TypeDef) → IsLike (λ ty. new_id ids (new_id kids ty)) one (renumbered ids v (renumbered kids u one))
like_twice ids kids v u (type.Ordinal h low high) = refl
like_twice ids kids v u (type.Str max) = refl
like_twice ids kids v u (type.SetOf base) = refl
like_twice ids kids v u (type.PointerTo target) = refl
like_twice ids kids v u (type.ArrayOf index element) = tt
like_twice ids kids v u (type.RecordOf fields) = tt
like_twice ids kids v u (type.ObjectOf parent dynamic fields methods) = tt
like_twice ids kids v u (type.Procedural header) = tt

bounds_twice : (ids kids : List TypeId) (v u : ℕ) (one : TypeDef) → bounds_of (Some (renumbered ids v (renumbered kids u one))) ≡ bounds_of (Some one)
bounds_twice ids kids v u (type.Ordinal h low high) = refl
bounds_twice ids kids v u (type.Str max) = refl
bounds_twice ids kids v u (type.SetOf base) = refl
bounds_twice ids kids v u (type.PointerTo target) = refl
bounds_twice ids kids v u (type.ArrayOf index element) = refl
bounds_twice ids kids v u (type.RecordOf fields) = refl
bounds_twice ids kids v u (type.ObjectOf parent dynamic fields methods) = refl
bounds_twice ids kids v u (type.Procedural header) = refl

is_in_first : (k : ℕ) (rest : List ℕ) → is_in (k ∷ rest) k ≡ true
is_in_first k rest = ap (λ (b : Bool). b || is_in rest k) (eq-eqb k k refl)

is_in_back : (xs ys : List ℕ) (k : ℕ) → is_in ys k ≡ true → is_in (xs ++ ys) k ≡ true
is_in_back [] ys k h = h
is_in_back (x ∷ xs) ys k h = or_right (nat_eq k x) (is_in (xs ++ ys) k) (is_in_back xs ys k h)
  where
    or_right : (a b : Bool) → b ≡ true → (a || b) ≡ true
    or_right true b h = refl
    or_right false b h = h

ty_is : (x : TypeId) (n : ℕ) → x.0 ≡ n → x ≡ type_id n
ty_is x n e = ap type_id e

-- what has a value is a type of the table
value_within : (types : List TypeDef) (ty : TypeId) (v : Value) (o : Option TypeDef) → definition types ty ≡ o → IsValue types v o → ty.0 < length types
value_within types ty v (Some one) at h = slice_get_within types ty.0 one at
value_within types ty (value.Number n) None at h = absurd h
value_within types ty (value.Chars bytes) None at h = absurd h
value_within types ty value.Nil None at h = absurd h
value_within types ty (value.Elements bytes) None at h = absurd h

-- The types of a unit, those of them that are reached, and a table into which its interface comes.
module _ (unit : TypedUnit) (reached : List ℕ) (table : Table)
    (exactly : (number : ℕ) → number < length unit.types.types → ((is_in reached number ≡ true) → IsReached unit.types.types unit.items number) × (IsReached unit.types.types unit.items number → is_in reached number ≡ true))
    (own_paired : length unit.types.origins ≡ length unit.types.types) (paired : length table.origins ≡ length table.types)
    (based : (ty base : TypeId) → definition unit.types.types ty ≡ Some (type.SetOf base) → base.0 < length unit.types.types)
    (followed : (number : ℕ) (low high : ℤ) → slice_get unit.types.types number ≡ Some (type.Ordinal host.Enumeration low high) → number + 1 < length unit.types.types) where
  abbrev own : List TypeDef
  own = unit.types.types

  abbrev kids : List TypeId
  kids = new_ids reached (length unit.types.types)

  abbrev other : Table
  other = kept unit.types reached (new_ids reached (length unit.types.types)) (length unit.types.types)

  abbrev ids : List TypeId
  ids = ids_in table other

  abbrev f : TypeId → TypeId
  f ty = new_id (ids_in table other) (new_id (new_ids reached (length unit.types.types)) ty)

  abbrev Needed : TypeId → Type 0
  Needed ty = is_in reached ty.0 ≡ true

  -- a type that is reached, in the interface
  kept_there : (ty : TypeId) (one : TypeDef) → Needed ty → definition own ty ≡ Some one → IsThere kids other.types (new_id kids ty) one
  kept_there ty one need at =
      let k = kept_at unit.types reached kids own_paired ty.0 one need at in
      let spot : (new_id kids ty).0 ≡ kept_before reached ty.0 = new_id_is reached (length unit.types.types) ty.0 ty (slice_get_within own ty.0 one at) in
      record { unit = k.unit; at = ap (slice_get other.types) spot ∙ k.at }

  -- what goes with a type that is reached is reached
  beside_reached : (ty : TypeId) (one : TypeDef) (to : ℕ) → Needed ty → definition own ty ≡ Some one → is_in (with_type ty.0 (Some one)) to ≡ true → to < length unit.types.types → is_in reached to ≡ true
  beside_reached ty one to need at in_it below =
      let h = (exactly ty.0 (slice_get_within own ty.0 one at)).0 need in
      let named : is_in (with_type ty.0 (slice_get own ty.0)) to ≡ true = ap (λ (o : Option TypeDef). is_in (with_type ty.0 o) to) at ∙ in_it in
      (exactly to below).1 (record { steps = suc h.steps; within = (ty.0, h.within, goes_along own ty.0 to (slice_get own ty.0) named, below) })

  module _ (level : length other.origins ≡ length other.types) (alike : IsKnownAlike table other) (beside : AreBeside table other)
      (byte : Needed (type_id 1) → f (type_id 1) ≡ type_id 1) (chars : Needed char → f char ≡ char) (truths : Needed boolean → f boolean ≡ boolean) where
    told : (ty : TypeId) (one : TypeDef) → Needed ty → definition own ty ≡ Some one → IsTold (with_types table other).types f ty one
    told ty one need at =
        let k = kept_there ty one need at in
        let m = met_at table other paired level alike (new_id kids ty).0 (renumbered kids k.unit one) (new_id kids ty) k.at in
        record { other = renumbered ids m.unit (renumbered kids k.unit one); there = m.at; like = like_twice ids kids m.unit k.unit one; bounds = bounds_twice ids kids m.unit k.unit one }

    base : (ty base : TypeId) → Needed ty → definition own ty ≡ Some (type.SetOf base) → Needed base × ((one : TypeDef) × (definition own base ≡ Some one))
    base ty under need at =
        let below = based ty under at in
        let there = has own under.0 below in
        (beside_reached ty (type.SetOf under) under.0 need at (is_in_first under.0 []) below, (there.one, there.at))

    behind : (ty : TypeId) (low high : ℤ) → Needed ty → definition own ty ≡ Some (type.Ordinal host.Enumeration low high) → Needed (type_id (ty.0 + 1)) × (f (type_id (ty.0 + 1)) ≡ type_id ((f ty).0 + 1))
    behind ty low high need at =
        let below = followed ty.0 low high at in
        let next : TypeId = type_id (ty.0 + 1) in
        let within : ty.0 < length unit.types.types = slice_get_within own ty.0 (type.Ordinal host.Enumeration low high) at in
        let spot : (new_id kids ty).0 ≡ kept_before reached ty.0 = new_id_is reached (length unit.types.types) ty.0 ty within in
        let next_spot : (new_id kids next).0 ≡ kept_before reached (ty.0 + 1) = new_id_is reached (length unit.types.types) (ty.0 + 1) next below in
        let more : kept_before reached (ty.0 + 1) ≡ kept_before reached ty.0 + 1 =
        ap (kept_before reached) (add-one ty.0) ∙ ap (λ (b : Bool). kept_before reached ty.0 + cond b 1 0) need in
        let after : (new_id kids next).0 ≡ (new_id kids ty).0 + 1 = omega arith in
        let k = kept_there ty (type.Ordinal host.Enumeration low high) need at in
        let both : (get_or ids ((new_id kids ty).0 + 1) (new_id kids next)).0 ≡ (get_or ids (new_id kids ty).0 (new_id kids ty)).0 + 1 = beside (new_id kids ty).0 low high (new_id kids ty) (new_id kids next) k.at in
        let same : (f next).0 ≡ (f ty).0 + 1 = ap (λ (n : ℕ). (get_or ids n (new_id kids next)).0) after ∙ both in
        (beside_reached ty (type.Ordinal host.Enumeration low high) (ty.0 + 1) need at (is_in_first (ty.0 + 1) []) below, ty_is (f next) ((f ty).0 + 1) same)

    are_told : AreTold own (with_types table other).types f Needed
    are_told = record { told = told; base = base; behind = behind; byte = byte; char = chars; boolean = truths }

    -- ---- items

    items_move : (items : List Item) → ((k : ℕ) → is_in (in_items items) k ≡ true → is_in (in_items unit.items) k ≡ true) → AreOwnConstants own items → AreConstantsIn (with_types table other).types ids (map (renumbered_item kids) items)
    items_move [] sub h = tt
    items_move (item.Const name ty v ∷ rest) sub h =
        let below : ty.0 < length unit.types.types = value_within own ty v (definition own ty) refl h.0.value in
        let need : is_in reached ty.0 ≡ true = (exactly ty.0 below).1 (record { steps = 0; within = (sub ty.0 (is_in_first ty.0 (in_items rest)), below) }) in
        (constant_moves own (with_types table other).types f Needed are_told ty v need h.0, items_move rest (λ k e. sub k (is_in_back (ty.0 ∷ []) (in_items rest) k e)) h.1)
    items_move (item.Ty name ty ∷ rest) sub h = items_move rest (λ k e. sub k (is_in_back (ty.0 ∷ []) (in_items rest) k e)) h
    items_move (item.Var name ty number ∷ rest) sub h = items_move rest (λ k e. sub k (is_in_back (ty.0 ∷ []) (in_items rest) k e)) h
    items_move (item.Code name header number ∷ rest) sub h = items_move rest (λ k e. sub k (is_in_back (in_item (item.Code name header number)) (in_items rest) k e)) h

    -- the constants that the unit shows are constants where they come to
    pub constants_move : AreOwnConstants own unit.items → AreConstantsIn (with_types table (shown unit reached).types).types (ids_in table (shown unit reached).types) (shown unit reached).items
    constants_move h = items_move unit.items (λ k e. e) h

abbrev Moves : TypedUnit → Interface → Table → Type 0
Moves unit i table = AreOwnConstants unit.types.types unit.items → AreConstantsIn (with_types table i.types).types (ids_in table i.types) i.items

pub shown_move : (unit : TypedUnit) (i : Interface) (table : Table) (shows : IsInterfaceOf unit i) → IsPaired unit.types → IsPaired i.types → IsPaired table → IsWhole unit.types.types
    → IsKnownOf unit i shows.reached table → Moves unit i table
shown_move unit i table shows own_paired level paired whole known =
    let P : Interface → Type 0 = λ j. IsPaired j.types → IsKnownOf unit j shows.reached table → Moves unit j table in
    let here : P (shown unit shows.reached) = λ l k.
    constants_move unit shows.reached table (λ number below. ((shows.exactly number below).0, (shows.exactly number below).1)) own_paired paired whole.based whole.followed
    l k.alike k.beside k.fixed.byte k.fixed.chars k.fixed.truths in
    subst P (sym shows.is) here level known

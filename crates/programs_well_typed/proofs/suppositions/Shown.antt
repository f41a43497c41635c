-- What an interface tells is what the unit that shows it has, and its types are the same in each table that knows them.
use Rattle.std.proofs.Common.{◌≡◌, ◌∙◌, ℕ, zero, suc, ◌<◌, true, false, List, [], ◌∷◌, length, map, Some, refl, sym, ap, subst, arith, Bool}
use Rattle.std.specs.Prelude.{slice_get}
use Rattle.shared_types_agree.specs.type_layout.declared.definitions.TypeId.{TypeId}
use Rattle.shared_types_agree.specs.type_layout.declared.definitions.Header.{Header}
use Rattle.shared_types_agree.specs.type_layout.Table.{Table}
use Rattle.shared_types_agree.specs.typed_tree.declared.units.Item.{Item}
use Rattle.shared_types_agree.specs.typed_tree.declared.units.Item.TheVariants as item
use Rattle.shared_types_agree.specs.typed_tree.declared.units.Unit as typed
use Rattle.shared_types_agree.specs.typed_tree.declared.units.Program.{Program}
use Rattle.shared_types_agree.specs.well_formed.WellFormed.{IsItem}
use Rattle.shared_types_agree.specs.scopes.declared.entries.Entry.TheVariants as entry
use Rattle.shared_types_agree.specs.type_layout.declared.definitions.RoutineId.{RoutineId}
use Rattle.shared_types_agree.specs.tp_meaning.Programs.{sort_in, is_overlay}
use Rattle.shared_types_agree.specs.store_typing.types.Declared.{declared, declared_header}
use Rattle.shared_types_agree.specs.store_typing.types.Agreement.{IsUnit, IsKnown}
use Rattle.shared_types_agree.specs.unit_interface.declared.keys.Key.{Key}
use Rattle.shared_types_agree.specs.unit_interface.declared.interfaces.Interface.{Interface}
use Rattle.shared_types_agree.specs.unit_interface.Keyed.{IsKeyed}
use Rattle.shared_types_agree.specs.unit_interface.Merge.{keys_of, new_id, renumbered_header, entry_of}
use Rattle.shared_types_agree.specs.unit_interface.Exports.{in_item, in_items, in_header, is_in, new_ids, renumbered_item, IsInterfaceOf}
use Rattle.shared_types_agree.proofs.unit_interface_proofs.OrderLaws.{IsIn}
use Rattle.shared_types_agree.proofs.unit_interface_proofs.KeptLaws.{get_or-new_ids}
use Rattle.shared_types_agree.specs.methods.Below.{view_unit, with_nothing_else}
use Rattle.programs_well_formed.specs.programs.Below.{IsWellScopedUnit}
use Rattle.shared_types_agree.proofs.imported_types_agree_proofs.consistent_types.Known.{keys_long, key_there, type_there}
use Rattle.shared_types_agree.proofs.imported_types_agree_proofs.consistent_types.Shown.{kept_key}
use Rattle.shared_types_agree.proofs.imported_types_agree_proofs.consistent_types.Twice.{AllOf, front, back}
use Rattle.shared_types_agree.proofs.imported_types_agree_proofs.consistent_types.Named.{all_below, all_in, all_two}
use Rattle.shared_types_agree.proofs.methods.Below.{declared_at}
use Rattle.programs_well_typed.proofs.suppositions.Items.{IsAt, IsSame, header_same}

-- what others are made of stands at the same place
pub mapped_at : {X Y : Type 0} (f : X → Y) (xs : List X) (place : ℕ) (y : Y) → slice_get (map f xs) place ≡ Some y → (x : X) × (slice_get xs place ≡ Some x) × (f x ≡ y)
mapped_at f [] place y at = absurd (cc)
mapped_at f (x ∷ xs) zero y at = (x, refl, cc)
mapped_at f (x ∷ xs) (suc place) y at = mapped_at f xs place y at

-- ---- the unit that shows an interface

-- It is found in the program by the interface's name, is no Overlay, names types of its table alone, and has what its items say.
pub record IsShownUnit (program : Program) (i : Interface) : Type 0 where
  pub unit : typed.Unit
  pub listed : IsUnit program unit
  pub own : is_overlay unit.name ≡ false
  pub named : i.name ≡ unit.name
  pub shows : IsInterfaceOf (with_nothing_else (view_unit unit)) i
  pub keyed : IsKeyed unit.types
  pub closed : IsWellScopedUnit unit.types unit.items
  pub items : (place : ℕ) (one : Item) → slice_get unit.items place ≡ Some one → IsItem unit one

-- a type that stands in two tables by one key
pub record IsSameType (table home : Table) (here there : TypeId) : Type 0 where
  pub key : Key
  pub at : slice_get (keys_of table) here.0 ≡ Some key
  pub home_at : slice_get (keys_of home) there.0 ≡ Some key

pub same_declared : (table home : Table) (here there : TypeId) → IsKeyed table → IsKeyed home → IsSameType table home here there → declared table here ≡ declared home there
same_declared table home here there keyed also s = declared_at table keyed here.0 s.key s.at ∙ sym (declared_at home also there.0 s.key s.home_at)

-- a type that stands in the table of a unit is known
pub known_type : (program : Program) (unit : typed.Unit) (ty : TypeId) (key : Key) → IsUnit program unit → IsKeyed unit.types → slice_get (keys_of unit.types) ty.0 ≡ Some key → IsKnown program (sort_in unit ty)
known_type program unit ty key listed keyed at =
    let one = type_there unit.types ty.0 key keyed.paired at in
    record { unit = unit; listed = listed; table = refl; one = one.0; is = one.1 }

all_map : (P Q : ℕ → Type 0) → ((x : ℕ) → P x → Q x) → (xs : List ℕ) → AllOf P xs → AllOf Q xs
all_map P Q f [] h = tt
all_map P Q f (x ∷ xs) h = (f x h.0, all_map P Q f xs h.1)

-- what all numbers of some items keep, those of each of them keep
one_of : (P : ℕ → Type 0) (items : List Item) (one : Item) (place : ℕ) → slice_get items place ≡ Some one → AllOf P (in_items items) → AllOf P (in_item one)
one_of P [] one place at h = absurd (cc)
one_of P (first ∷ rest) one zero at h =
    let same : first ≡ one = cc in
    subst (λ (x : Item). AllOf P (in_item x)) same (front P (in_item first) (in_items rest) h)
one_of P (first ∷ rest) one (suc place) at h = one_of P rest one place at (back P (in_item first) (in_items rest) h)

module _ (program : Program) (i : Interface) (u : IsShownUnit program i) where
  abbrev pub home : Table
  home = u.unit.types

  abbrev pub kids : List TypeId
  kids = new_ids u.shows.reached (length u.unit.types.types)

  -- an item of the interface is one of the unit, under the interface's ids
  pub item_shown : (one : Item) → IsAt Item i.items one → (first : Item) × IsAt Item u.unit.items first × (renumbered_item kids first ≡ one)
  item_shown one among =
      let shown : i.items ≡ map (renumbered_item kids) u.unit.items = ap (λ (x : Interface). x.items) u.shows.is in
      let m = mapped_at (renumbered_item kids) u.unit.items among.place one (ap (λ (l : List Item). slice_get l among.place) (sym shown) ∙ among.at) in
      (m.0, record { place = among.place; at = m.1 }, m.2)

  -- ---- types

  module _ (table : Table) (ids : List TypeId) (keyed : IsKeyed table) (keys : (ty : TypeId) (key : Key) → slice_get (keys_of i.types) ty.0 ≡ Some key → slice_get (keys_of table) (new_id ids ty).0 ≡ Some key) where
    -- a type that items name stands in each table that knows those of the interface
    pub same_type : (number : ℕ) → is_in (in_items u.unit.items) number ≡ true → number < length home.types
        → (let ty : TypeId = record { 0 = number } in IsSameType table home (new_id ids (new_id kids ty)) ty)
    same_type number met low =
        let ty : TypeId = record { 0 = number } in
        let k = key_there home number (omega (arith, low, keys_long home u.keyed.paired)) in
        let reached : is_in u.shows.reached number ≡ true = (u.shows.exactly number low).1 (record { steps = 0; within = (met, low) }) in
        let shown = kept_key (with_nothing_else (view_unit u.unit)) i u.shows u.keyed number k.0 reached k.1 in
        let id : (new_id kids ty).0 ≡ _ = get_or-new_ids u.shows.reached (length home.types) number ty low in
        record {
          key = k.0;
          at = keys (new_id kids ty) k.0 (ap (slice_get (keys_of i.types)) id ∙ shown);
          home_at = k.1;
        }

    -- a number of the items' types
    abbrev pub IsSameNumber : ℕ → Type 0
    IsSameNumber number = (let ty : TypeId = record { 0 = number } in IsSameType table home (new_id ids (new_id kids ty)) ty)

    all_same : AllOf IsSameNumber (in_items u.unit.items)
    all_same =
        all_map (λ x. IsIn x (in_items u.unit.items) × (x < length home.types)) IsSameNumber (λ x h. same_type x h.0 h.1) (in_items u.unit.items)
        (all_two (λ x. IsIn x (in_items u.unit.items)) (λ x. x < length home.types) (in_items u.unit.items)
        (all_in (λ x. IsIn x (in_items u.unit.items)) (in_items u.unit.items) (λ x e. e)) (all_below (length home.types) (in_items u.unit.items) u.closed.items))

    -- all types that an item names are the same
    pub item_same : (one : Item) → IsAt Item u.unit.items one → AllOf IsSameNumber (in_item one)
    item_same one among = one_of IsSameNumber u.unit.items one among.place among.at all_same

    pub header_declared : (header : Header) → AllOf IsSameNumber (in_header header) → declared_header table (renumbered_header ids (renumbered_header kids header)) ≡ declared_header home header
    header_declared header h =
        header_same ids kids table home header
        (all_map IsSameNumber (IsSame ids kids table home) (λ x s. (let ty : TypeId = record { 0 = x } in same_declared table home (new_id ids (new_id kids ty)) ty keyed u.keyed s)) (in_header header) h)

-- ---- which item an entry comes from

pub record IsVariable (ids kids : List TypeId) (unit : ℕ) (first : Item) (at level number : ℕ) (ty : TypeId) : Type 0 where
  pub name : List ℕ
  pub own : TypeId
  pub is : first ≡ item.Var name own number
  pub place : unit ≡ at
  pub known : new_id ids (new_id kids own) ≡ ty

pub record IsRoutineOf (ids kids : List TypeId) (unit : ℕ) (first : Item) (routine : RoutineId) (header : Header) : Type 0 where
  pub name : List ℕ
  pub own : Header
  pub is : first ≡ item.Code name own routine.number
  pub place : unit ≡ routine.unit
  pub known : renumbered_header ids (renumbered_header kids own) ≡ header

module _ (ids kids : List TypeId) (unit : ℕ) where
  pub variable_from : (first : Item) (at level number : ℕ) (ty : TypeId) → entry_of ids unit (renumbered_item kids first) ≡ entry.Var at level number ty → IsVariable ids kids unit first at level number ty
  variable_from (item.Const name own v) at level number ty e = absurd (cc)
  variable_from (item.Ty name own) at level number ty e = absurd (cc)
  variable_from (item.Var name own n) at level number ty e =
      let place : unit ≡ at = cc in
      let same : n ≡ number = cc in
      let known : new_id ids (new_id kids own) ≡ ty = cc in
      record { name = name; own = own; is = ap (λ (k : ℕ). item.Var name own k) same; place = place; known = known }
  variable_from (item.Code name own n) at level number ty e = absurd (cc)

  pub routine_from : (first : Item) (routine : RoutineId) (level : ℕ) (header : Header) (far : Bool) → entry_of ids unit (renumbered_item kids first) ≡ entry.Code routine level header far
      → IsRoutineOf ids kids unit first routine header
  routine_from (item.Const name own v) routine level header far e = absurd (cc)
  routine_from (item.Ty name own) routine level header far e = absurd (cc)
  routine_from (item.Var name own n) routine level header far e = absurd (cc)
  routine_from (item.Code name own n) routine level header far e =
      let id : (let r : RoutineId = record { unit = unit; number = n } in r) ≡ routine = cc in
      let known : renumbered_header ids (renumbered_header kids own) ≡ header = cc in
      record { name = name; own = own; is = ap (λ (r : RoutineId). item.Code name own r.number) id; place = ap (λ (r : RoutineId). r.unit) id; known = known }

-- The table of a unit is told where its own interface is among those that tell.
use Rattle.std.proofs.Common.{◌≡◌, ◌∙◌, ◌⊎◌, inl, inr, ℕ, ◌+◌, ◌<◌, Bool, true, false, List, [], ◌∷◌, ◌++◌, length, map, Option, Some, None, option_map, refl, arith, sym, ap, subst}
use Rattle.std.specs.Prelude.{All, slice_get}
use Rattle.std.specs.Cmp.Lexicographic.{same_text}
use Rattle.std.proofs.lemmas.List.Elements.{All-head, All-tail}
use Rattle.std.proofs.lemmas.Option.{same_Some}
use Rattle.tables_closed.specs.type_layout.declared.definitions.TypeId.{TypeId}
use Rattle.tables_closed.specs.type_layout.declared.definitions.Param.{Param}
use Rattle.tables_closed.specs.type_layout.declared.definitions.Header.{Header}
use Rattle.tables_closed.specs.type_layout.declared.definitions.Field.{Field}
use Rattle.tables_closed.specs.type_layout.declared.definitions.Method.{Method}
use Rattle.tables_closed.specs.type_layout.declared.definitions.TypeDef.{TypeDef}
use Rattle.tables_closed.specs.type_layout.declared.definitions.TypeDef.TheVariants.{Ordinal, Str, SetOf, ArrayOf, RecordOf, PointerTo, ObjectOf, Procedural}
use Rattle.tables_closed.specs.type_layout.Words.{same_bytes}
use Rattle.tables_closed.specs.type_layout.Table.{Table, HasMethodsOf}
use Rattle.tables_closed.specs.typed_tree.declared.units.Unit as typed
use Rattle.tables_closed.specs.unit_interface.declared.keys.Key.{Key}
use Rattle.tables_closed.specs.unit_interface.declared.interfaces.Interface.{Interface}
use Rattle.tables_closed.specs.unit_interface.Merge.{keys_of, new_id, renumbered_param, renumbered_header, renumbered_field, renumbered_method, renumbered}
use Rattle.tables_closed.specs.unit_interface.Exports.{in_type, behind, in_front, goes_with, is_in, kept_before, new_ids, IsInterfaceOf}
use Rattle.tables_closed.proofs.unit_interface_proofs.OrderLaws.{IsIn, contrary, in_append, in_left, only_one}
use Rattle.tables_closed.proofs.unit_interface_proofs.KeyLaws.{same_itself}
use Rattle.tables_closed.proofs.unit_interface_proofs.KeptLaws.{get_or-new_ids}
use Rattle.tables_closed.specs.constants.Bounds.{AreBelow}
use Rattle.imported_types_agree.specs.consistent_types.Consistency.{home_of, between, IsAlike, AreAlike, AreFronted, IsWellScopedTable, IsConsistent, IsConsistentWithOthers}
use Rattle.imported_types_agree.proofs.consistent_types.Twice.{AllOf, twice_type}
use Rattle.imported_types_agree.proofs.consistent_types.Keys.{place_at}
use Rattle.imported_types_agree.proofs.consistent_types.Named.{all_in}
use Rattle.imported_types_agree.proofs.consistent_types.Known.{keys_long, key_there, own_named, between_at, same_id}
use Rattle.imported_types_agree.proofs.consistent_types.Kept.{kept_to}
use Rattle.imported_types_agree.proofs.consistent_types.Shown.{goes_shown, kept_key, shown_key}
use Rattle.imported_types_agree.specs.compatible_types.Fits.{HaveOwnMethods}

-- ---- what keeps its ids

params_itself : (params : List Param) → map (renumbered_param []) params ≡ params
params_itself [] = refl
params_itself (param ∷ params) = ap (λ (l : List Param). param ∷ l) (params_itself params)

option_itself : (ty : Option TypeId) → option_map (new_id []) ty ≡ ty
option_itself None = refl
option_itself (Some ty) = refl

header_itself : (header : Header) → renumbered_header [] header ≡ header
header_itself header =
    ap (λ (l : List Param). (let h : Header = record { kind = header.kind; params = l; result = option_map (new_id []) header.result } in h)) (params_itself header.params)
    ∙ ap (λ (o : Option TypeId). (let h : Header = record { kind = header.kind; params = header.params; result = o } in h)) (option_itself header.result)

fields_itself : (fields : List Field) → map (renumbered_field []) fields ≡ fields
fields_itself [] = refl
fields_itself (field ∷ fields) = ap (λ (l : List Field). field ∷ l) (fields_itself fields)

method_itself : (unit : ℕ) (method : Method) → method.routine.unit ≡ unit → renumbered_method [] unit method ≡ method
method_itself unit method is =
    ap (λ (h : Header). (let m : Method = record { name = method.name; header = h; is_virtual = method.is_virtual; routine = record { unit = unit; number = method.routine.number } } in m)) (header_itself method.header)
    ∙ ap (λ (u : ℕ). (let m : Method = record { name = method.name; header = method.header; is_virtual = method.is_virtual; routine = record { unit = u; number = method.routine.number } } in m)) (sym is)

methods_itself : (unit : ℕ) (methods : List Method) → All (λ (method : Method). method.routine.unit ≡ unit) methods → map (renumbered_method [] unit) methods ≡ methods
methods_itself unit [] all = refl
methods_itself unit (method ∷ methods) all =
    ap (λ (m : Method). m ∷ map (renumbered_method [] unit) methods) (method_itself unit method (All-head (λ (m : Method). m.routine.unit ≡ unit) method methods all))
    ∙ ap (λ (l : List Method). method ∷ l) (methods_itself unit methods (All-tail (λ (m : Method). m.routine.unit ≡ unit) method methods all))

type_itself : (unit : ℕ) (one : TypeDef) → HasMethodsOf unit one → renumbered [] unit one ≡ one
type_itself unit (Ordinal host low high) own = refl
type_itself unit (Str max) own = refl
type_itself unit (SetOf base) own = refl
type_itself unit (ArrayOf index element) own = refl
type_itself unit (RecordOf fields) own = ap (λ (l : List Field). RecordOf l) (fields_itself fields)
type_itself unit (PointerTo target) own = refl
type_itself unit (ObjectOf parent dynamic fields methods) own =
    ap (λ (p : Option TypeId). ObjectOf p dynamic (map (renumbered_field []) fields) (map (renumbered_method [] unit) methods)) (option_itself parent)
    ∙ ap (λ (l : List Field). ObjectOf parent dynamic l (map (renumbered_method [] unit) methods)) (fields_itself fields)
    ∙ ap (λ (l : List Method). ObjectOf parent dynamic fields l) (methods_itself unit methods own)
type_itself unit (Procedural header) own = ap (λ (h : Header). Procedural h) (header_itself header)

-- a name is another's, or not
name_is : (one other : List ℕ) → (one ≡ other) ⊎ (one ≡ other → ⊥)
name_is one other = by (same_bytes one other) refl
  where
    by : (b : Bool) → same_bytes one other ≡ b → (one ≡ other) ⊎ (one ≡ other → ⊥)
    by true e = inl (same_text one other (sym e))
    by false e = inr (λ same. contrary (same_bytes one other) (ap (same_bytes one) (sym same) ∙ same_itself one) e)

below_of : (n : ℕ) (xs : List ℕ) (x : ℕ) → AreBelow n xs → IsIn x xs → x < n
below_of n [] x h e = contrary false e refl
below_of n (y ∷ ys) x h e =
    elim (in_append x (y ∷ []) ys e) [
      | inl here ↦ (let same = only_one x y here in omega (arith, h.0, same))
      | inr more ↦ below_of n ys x h.1 more
    ]

-- ---- the unit's own types

module _ (have : List Interface) (unit : typed.Unit) (i : Interface) (shows : IsInterfaceOf unit i) (but : IsConsistentWithOthers have unit.name unit.types) (closed : IsWellScopedTable unit.types)
    (home_is : home_of have unit.name ≡ Some i.types) (methods : HaveOwnMethods unit.name unit.types) where
  abbrev table : Table
  table = unit.types

  abbrev kids : List TypeId
  kids = new_ids shows.reached (length unit.types.types)

  abbrev IsShown : ℕ → Type 0
  IsShown x = (x < length unit.types.types) × (is_in shows.reached x ≡ true)

  -- the id in the interface, and back
  back : (ty : TypeId) → IsShown ty.0 → new_id (between i.types unit.types) (new_id kids ty) ≡ ty
  back ty shown =
      let k = key_there table ty.0 (omega (arith, shown.0, keys_long table closed.paired)) in
      let key : Key = k.0 in
      let q : TypeId = new_id kids ty in
      let spot : q.0 ≡ kept_before shows.reached ty.0 = get_or-new_ids shows.reached (length unit.types.types) ty.0 ty shown.0 in
      let there : slice_get (keys_of i.types) q.0 ≡ Some key = ap (slice_get (keys_of i.types)) spot ∙ kept_key unit i shows but.keyed ty.0 key shown.1 k.1 in
      same_id (new_id (between i.types unit.types) q) ty (between_at i.types unit.types q.0 key q there ∙ place_at (keys_of table) key ty.0 but.keyed.apart k.1)

  -- what a type that is shown names is shown
  named_shown : (number : ℕ) (one : TypeDef) → is_in shows.reached number ≡ true → slice_get table.types number ≡ Some one → AllOf IsShown (in_type one)
  named_shown number one met stands =
      all_in IsShown (in_type one)
      (λ x named.
      let low : x < length unit.types.types = below_of (length unit.types.types) (in_type one) x (own_named table number one closed stands) named in
      let beside : is_in (goes_with table.types number (Some one)) x ≡ true =
      in_left x (in_type one ++ behind number one) (in_front table.types number) (in_left x (in_type one) (behind number one) named) in
      (low, goes_shown unit i shows number x one met stands beside low))

  own_alike : (number place : ℕ) (key : Key) (first one : TypeDef) → key.unit ≡ unit.name → slice_get (keys_of table) number ≡ Some key → slice_get table.types number ≡ Some one
      → slice_get (keys_of i.types) place ≡ Some key → slice_get i.types.types place ≡ Some first → IsAlike i.types table first one
  own_alike number place key first one mine at stands there found =
      let types_are : i.types ≡ _ = ap (λ (x : Interface). x.types) shows.is in
      let k = (kept_to unit.types shows.reached kids but.keyed).from place key first
      (subst (λ (t : Table). slice_get (keys_of t) place ≡ Some key) types_are there) (subst (λ (t : Table). slice_get t.types place ≡ Some first) types_are found) in
      let same : k.number ≡ number = but.keyed.apart k.number number key k.key_at at in
      let was : k.was ≡ one = same_Some k.was one (sym k.stands ∙ ap (slice_get table.types) same ∙ stands) in
      let m = methods number key one at mine stands in
      let met : is_in shows.reached number ≡ true = ap (is_in shows.reached) (sym same) ∙ k.met in
      let twice : renumbered (between i.types table) m.0 (renumbered kids k.unit one) ≡ renumbered [] m.0 one =
      twice_type IsShown kids (between i.types table) [] back m.0 k.unit one (named_shown number one met stands) in
      record {
        unit = m.0;
        is = sym (type_itself m.0 one m.1) ∙ sym twice ∙ ap (renumbered (between i.types table) m.0) (ap (renumbered kids k.unit) (sym was) ∙ sym k.is);
      }

  home_mine : (key : Key) (home : Table) → key.unit ≡ unit.name → home_of have key.unit ≡ Some home → i.types ≡ home
  home_mine key home mine is = same_Some i.types home (sym home_is ∙ ap (home_of have) (sym mine) ∙ is)

  alike : AreAlike have table
  alike number place key home first one at stands is there found =
      elim (name_is key.unit unit.name) [
        | inl mine ↦
            let same = home_mine key home mine is in
            subst (λ (t : Table). IsAlike t table first one) same
            (own_alike number place key first one mine at stands (subst (λ (t : Table). slice_get (keys_of t) place ≡ Some key) (sym same) there)
            (subst (λ (t : Table). slice_get t.types place ≡ Some first) (sym same) found))
        | inr other ↦ but.alike number place key home first one other at stands is there found
      ]

  fronted : AreFronted have table
  fronted number place key home low high at is there found =
      elim (name_is key.unit unit.name) [
        | inl mine ↦ shown_key unit i shows but.keyed place key (subst (λ (t : Table). slice_get (keys_of t) place ≡ Some key) (sym (home_mine key home mine is)) there)
        | inr other ↦ but.fronted number place key home low high other at is there found
      ]

  -- all of its types are told
  pub own_told : IsConsistent have unit.types
  own_told = record { keyed = but.keyed; alike = alike; followed = but.followed; fronted = fronted }

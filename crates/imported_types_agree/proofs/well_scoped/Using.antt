-- Scopes stay closed where they use units.
use Rattle.std.proofs.Common.{◌≡◌, ◌∙◌, ℕ, zero, suc, ◌+◌, ◌-◌, ◌<◌, ◌≤◌, ℤ, Bool, true, false, ◌&&◌, ◌||◌, cond, List, [], ◌∷◌, ◌++◌, length, Option, Some, None, refl, sym, ap, subst, arith, length-append}
use Rattle.std.specs.Prelude.{slice_get}
use Rattle.tables_closed.specs.type_layout.declared.definitions.TypeId.{TypeId}
use Rattle.tables_closed.specs.type_layout.declared.definitions.Host.TheVariants as host
use Rattle.tables_closed.specs.type_layout.declared.definitions.TypeDef.{TypeDef}
use Rattle.tables_closed.specs.type_layout.declared.definitions.TypeDef.TheVariants.{Ordinal, Str, SetOf, ArrayOf, RecordOf, PointerTo, ObjectOf, Procedural}
use Rattle.tables_closed.specs.type_layout.Table.{Table, with_type, place_of}
use Rattle.tables_closed.specs.scopes.Symbols.{SymbolList}
use Rattle.tables_closed.specs.scopes.Environment.{Environment}
use Rattle.tables_closed.specs.unit_interface.declared.interfaces.Interface.{Interface}
use Rattle.tables_closed.specs.unit_interface.Exports as exports
use Rattle.tables_closed.specs.unit_interface.Exports.{in_type, behind}
use Rattle.tables_closed.specs.unit_interface.Merge.{ids_in, new_id, renumbered, is_new, with_interface}
use Rattle.tables_closed.specs.unit_interface.Resolve.{overlay, overlay_items, with_overlay, is_overlay, interface_named, with_found, with_use, with_uses}
use Rattle.tables_closed.specs.unit_interface.Fitting.{types_fit, found_fits, use_fits, uses_fit}
use Rattle.tables_closed.specs.constants.Bounds.{AreBelow, in_names, in_lists, IsWellScopedEnvironment}
use Rattle.tables_closed.proofs.constants.Below.{at_push, below_both, below_first, below_last}
use Rattle.tables_closed.proofs.constants.Names.{closed_below}
use Rattle.imported_types_agree.specs.well_scoped.Scopes.{IsCompleteScope, IsWellScopedInterface, IsWellScopedUse, AreWellScopedUses}
use Rattle.imported_types_agree.proofs.well_scoped.Merging.{with_first, has, met, longer, id_low}
use Rattle.imported_types_agree.proofs.well_scoped.Fitting.{AreTogether, ordered_behind, together}
use Rattle.imported_types_agree.proofs.well_scoped.Renumbering.{new_type, new_items}

-- ---- types

abbrev pub TypesBelow : ℕ → List TypeDef → Type 0
TypesBelow n types = (by : ℕ) → AreBelow n (exports.with_type by (slice_get types by))

-- what is behind a type stays so with new ids
pub new_behind : (n number : ℕ) (ids : List TypeId) (unit : ℕ) (one : TypeDef) → ((low high : ℤ) → one ≡ Ordinal host.Enumeration low high → number + 1 < n) → AreBelow n (behind number (renumbered ids unit one))
new_behind n number ids unit (Ordinal host.Enumeration low high) h = (h low high refl, tt)
new_behind n number ids unit (Ordinal host low high) h = tt
new_behind n number ids unit (Str max) h = tt
new_behind n number ids unit (SetOf base) h = tt
new_behind n number ids unit (ArrayOf index element) h = tt
new_behind n number ids unit (RecordOf fields) h = tt
new_behind n number ids unit (PointerTo target) h = tt
new_behind n number ids unit (ObjectOf parent dynamic fields methods) h = tt
new_behind n number ids unit (Procedural header) h = tt

by_cond : (P : Table → Type 0) (b : Bool) (one two : Table) → (b ≡ true → P one) → P two → P (cond b one two)
by_cond P true one two h k = h refl
by_cond P false one two h k = k

grown_by : (b : Bool) (one two : Table) (n : ℕ) → b ≡ true → n ≤ length one.types → n ≤ length (cond b one two).types
grown_by true one two n e h = h
grown_by false one two n e h = absurd (let f : false ≡ true = e in cc)

module _ (table : Table) (i : Interface) (paired : length table.origins ≡ length table.types) (closed : IsWellScopedInterface i) (united : AreTogether table i.types) where
  abbrev count : ℕ
  count = length i.types.types

  abbrev step : ℕ → Table
  step number = with_first table i.types number

  abbrev new_ids : List TypeId
  new_ids = ids_in table i.types

  abbrev n : ℕ
  n = length (step count).types

  low_id : (ty : TypeId) → ty.0 < count → (new_id new_ids ty).0 < n
  low_id ty h = id_low table i.types paired closed.paired ty.0 ty h

  at_number : (number : ℕ) (one : TypeDef) → slice_get i.types.types number ≡ Some one → AreBelow count (exports.with_type number (Some one))
  at_number number one at = subst (λ (o : Option TypeDef). AreBelow count (exports.with_type number o)) at (closed.types number)

  -- the type that is added for a new one, and the next one where it needs that
  one_longer : (number : ℕ) → number < count → is_new new_ids (step number) number ≡ true → length (step number).types + 1 ≤ length (step (suc number)).types
  one_longer number low new =
      let one = has i.types.types number low in
      let m = met table i.types paired closed.paired number one.one one.at low in
      let added = with_type (step number) m.unit m.count (renumbered new_ids m.place one.one) in
      let more = grown_by (is_new new_ids (step number) number) added (step number) (length (step number).types + 1) new
      (omega (arith, length-append (step number).types (renumbered new_ids m.place one.one ∷ []))) in
      subst (λ (t : Table). length (step number).types + 1 ≤ length t.types) (sym m.is) more

  up_to_all : (number : ℕ) → number ≤ count → length (step number).types ≤ n
  up_to_all number low =
      let more : ℕ = count - number in
      let rest = longer table i.types paired closed.paired number more (omega arith) in
      let same : length (step (number + more)).types ≡ n = ap (λ (k : ℕ). length (step k).types) (let e : number + more ≡ count = omega arith in e) in
      omega arith

  types_merged : (number : ℕ) → number ≤ count → TypesBelow n table.types → TypesBelow n (step number).types
  types_merged zero low h = h
  types_merged (suc number) low h =
      let one = has i.types.types number (omega arith) in
      let m = met table i.types paired closed.paired number one.one one.at (omega arith) in
      let before = types_merged number (omega arith) h in
      let added = with_type (step number) m.unit m.count (renumbered new_ids m.place one.one) in
      let place = length (step number).types in
      let whole = at_number number one.one one.at in
      let named = new_type (λ x. x < count) n new_ids low_id m.place one.one (below_first count (in_type one.one) (behind number one.one) whole) in
      let P : Table → Type 0 = λ t. TypesBelow n t.types in
      subst P (sym m.is) (by_cond P (is_new new_ids (step number) number) added (step number)
      (λ new.
      let followed : (least greatest : ℤ) → one.one ≡ Ordinal host.Enumeration least greatest → place + 1 < n =
      λ least greatest is.
      let at : slice_get i.types.types number ≡ Some (Ordinal host.Enumeration least greatest) = one.at ∙ ap (λ (t : TypeDef). Some t) is in
      let next : suc number < count = (let two = (at_number number (Ordinal host.Enumeration least greatest) at).0 in omega arith) in
      let here = one_longer number (omega arith) new in
      let there = one_longer (suc number) next (united number least greatest at new) in
      let most = up_to_all (suc (suc number)) (omega arith) in
      omega arith in
      at_push (λ by found. AreBelow n (exports.with_type by found)) (step number).types (renumbered new_ids m.place one.one) before
      (below_both n (in_type (renumbered new_ids m.place one.one)) (behind place (renumbered new_ids m.place one.one)) named (new_behind n place new_ids m.place one.one followed)) (λ by. tt))
      before)

-- ---- scopes

in_more : (n : ℕ) (lists : List SymbolList) (names : SymbolList) → AreBelow n (in_lists lists) → AreBelow n (in_names names) → AreBelow n (in_lists (lists ++ names ∷ []))
in_more n [] names h k = below_both n (in_names names) [] k tt
in_more n (first ∷ lists) names h k =
    below_both n (in_names first) (in_lists (lists ++ names ∷ [])) (below_first n (in_names first) (in_lists lists) h) (in_more n lists names (below_last n (in_names first) (in_lists lists) h) k)

interface_closed : (g : Environment) (interface : Interface) → length g.types.origins ≡ length g.types.types → IsWellScopedEnvironment g → IsWellScopedInterface interface → AreTogether g.types interface.types
    → IsWellScopedEnvironment (with_interface g interface)
interface_closed g interface paired h closed whole =
    let n = length (with_first g.types interface.types (length interface.types.types)).types in
    let more = up_to_all g.types interface paired closed whole 0 (omega arith) in
    let b = closed_below n g h more in
    record {
      table = omega arith;
      system = b.system;
      types = types_merged g.types interface paired closed whole (length interface.types.types) (omega arith) b.types;
      predeclared = b.predeclared;
      used = in_more n g.used _ b.used (new_items (λ x. x < length interface.types.types) n (ids_in g.types interface.types) (low_id g.types interface paired closed whole)
          _ [] interface.items tt closed.items);
      blocks = b.blocks;
    }

overlay_closed : (g : Environment) → IsWellScopedEnvironment g → IsWellScopedEnvironment (with_overlay g)
overlay_closed g h =
    let n = length g.types.types in
    let most = h.system in
    let own : (ty : TypeId) → ty.0 < n → (new_id [] ty).0 < n = λ ty low. low in
    record {
      table = h.table;
      system = h.system;
      types = h.types;
      predeclared = h.predeclared;
      used = in_more n g.used _ h.used (new_items (λ x. x < n) n [] own (place_of g.units overlay) [] overlay_items tt
          (omega arith, (omega arith, (omega arith, (omega arith, (omega arith, tt))))));
      blocks = h.blocks;
    }

-- ---- complete scopes

pub interface_complete : (g : Environment) (interface : Interface) → IsCompleteScope g → IsWellScopedInterface interface → types_fit g.types interface.types ≡ true → IsCompleteScope (with_interface g interface)
interface_complete g interface h closed fits = record {
  ordered = ordered_behind g.types interface.types closed.paired fits h.ordered;
  closed = interface_closed g interface h.ordered.paired h.closed closed (together g.types interface.types h.ordered.paired closed.paired fits);
}

found_complete : (g : Environment) (found : Option Interface) → IsCompleteScope g → ((interface : Interface) → found ≡ Some interface → IsWellScopedInterface interface) → found_fits g found ≡ true
    → IsCompleteScope (with_found g found)
found_complete g None h closed fits = h
found_complete g (Some interface) h closed fits = interface_complete g interface h (closed interface refl) fits

pub use_complete : (have : List Interface) (g : Environment) (name : List ℕ) → IsCompleteScope g → IsWellScopedUse have name → use_fits have g name ≡ true → IsCompleteScope (with_use have g name)
use_complete have g name h closed fits = by (is_overlay name) refl fits
  where
    by : (b : Bool) → is_overlay name ≡ b → (b || found_fits g (interface_named have name)) ≡ true → IsCompleteScope (cond b (with_overlay g) (with_found g (interface_named have name)))
    by true is e = record { ordered = h.ordered; closed = overlay_closed g h.closed }
    by false is e = found_complete g (interface_named have name) h (closed is) e

-- its table has no fewer types
found_longer : (g : Environment) (found : Option Interface) → IsCompleteScope g → ((interface : Interface) → found ≡ Some interface → IsWellScopedInterface interface) → found_fits g found ≡ true
    → length g.types.types ≤ length (with_found g found).types.types
found_longer g None h closed fits = omega arith
found_longer g (Some interface) h closed fits =
    let c = closed interface refl in
    up_to_all g.types interface h.ordered.paired c (together g.types interface.types h.ordered.paired c.paired fits) 0 (omega arith)

pub use_longer : (have : List Interface) (g : Environment) (name : List ℕ) → IsCompleteScope g → IsWellScopedUse have name → use_fits have g name ≡ true
    → length g.types.types ≤ length (with_use have g name).types.types
use_longer have g name h closed fits = by (is_overlay name) refl fits
  where
    by : (b : Bool) → is_overlay name ≡ b → (b || found_fits g (interface_named have name)) ≡ true
        → length g.types.types ≤ length (cond b (with_overlay g) (with_found g (interface_named have name))).types.types
    by true is e = omega arith
    by false is e = found_longer g (interface_named have name) h (closed is) e

both_true : (a b : Bool) → (a && b) ≡ true → (a ≡ true) × (b ≡ true)
both_true true b e = (refl, e)
both_true false b e = (let f : false ≡ true = e in cc)

pub uses_complete : (have : List Interface) (g : Environment) (names : List (List ℕ)) → IsCompleteScope g → AreWellScopedUses have names → uses_fit have g names ≡ true → IsCompleteScope (with_uses have g names)
uses_complete have g [] h closed fits = h
uses_complete have g (name ∷ names) h closed fits =
    let both = both_true (use_fits have g name) (uses_fit have (with_use have g name) names) fits in
    uses_complete have (with_use have g name) names (use_complete have g name h closed.0 both.0) closed.1 both.1

-- The unit that declares an object type is one of the program.
use Rattle.std.proofs.Common.{◌≡◌, ◌∙◌, ◌⊎◌, inl, inr, ℕ, suc, Bool, true, false, cond, nat_eq, eqb-true, List, [], ◌∷◌, ◌++◌, Option, Some, None, refl, sym, ap, subst, arith}
use Rattle.std.specs.Prelude.{slice_get, is_some, option_map}
use Rattle.std.specs.Option.{option_to_list}
use Rattle.std.specs.List.{All, AllZip, list_any}
use Rattle.std.proofs.lemmas.Option.{none-some, same_Some, slice_get_within, get_or_from_slice_get}
use Rattle.unit_references.specs.type_layout.declared.definitions.TypeId.{TypeId}
use Rattle.unit_references.specs.type_layout.declared.definitions.TypeDef.{TypeDef}
use Rattle.unit_references.specs.type_layout.declared.definitions.TypeDef.TheVariants as type
use Rattle.unit_references.specs.type_layout.Words.{same_bytes}
use Rattle.unit_references.specs.type_layout.Table.{Table, IsObject}
use Rattle.interfaces_consistent.specs.source_graph.declared.sources.Source.{Source}
use Rattle.unit_references.specs.typed_tree.declared.units.Unit as typed
use Rattle.unit_references.specs.typed_tree.declared.units.Program.{Program}
use Rattle.unit_references.specs.tp_meaning.Trees.{Key as Class}
use Rattle.unit_references.specs.tp_meaning.Programs.{Sort, definition, class_key}
use Rattle.unit_references.specs.store_typing.types.Declared.{declared}
use Rattle.unit_references.specs.store_typing.types.Agreement.{IsUnit, IsKnown, AreConsistent}
use Rattle.unit_references.specs.store_typing.standard.Laws.{HasClasses}
use Rattle.unit_references.specs.store_typing.classes.Laws.{IsDeclared, HasDeclarers}
use Rattle.units_well_formed.specs.scopes.Predeclared.{system, type_list, type_table}
use Rattle.units_well_formed.specs.unit_interface.declared.keys.Key.{Key}
use Rattle.units_well_formed.specs.unit_interface.declared.interfaces.Interface.{Interface}
use Rattle.units_well_formed.specs.unit_interface.Merge.{keys_of, renumbered}
use Rattle.units_well_formed.specs.unit_interface.Order.{start_order}
use Rattle.units_well_formed.specs.unit_interface.Resolve.{interface_named}
use Rattle.units_well_formed.proofs.unit_interface_proofs.CircleLaws.{one_true}
use Rattle.interfaces_consistent.specs.source_graph.source_order.Orders.{all_uses}
use Rattle.interfaces_consistent.proofs.source_graph_proofs.source_order.Reached.{in_order as all_in_order}
use Rattle.interfaces_consistent.specs.front_end.source_interfaces.Kinds.{AreOfKinds}
use Rattle.interfaces_consistent.specs.front_end.source_interfaces.Scopes.{outer_scope}
use Rattle.interfaces_consistent.specs.front_end.source_interfaces.Interfaces.{IsShownIn, IsDone}
use Rattle.units_well_formed.specs.tp_check_decl.Units.{view_unit}
use Rattle.units_well_formed.specs.tp_check_decl.Shown.{with_nothing_else}
use Rattle.interfaces_consistent.specs.front_end.Typed.{sources_at, IsUnitOf}
use Rattle.interfaces_consistent.specs.interface_soundness.programs.Closing.{AreInOrder, ShowsAlike}
use Rattle.interfaces_consistent.proofs.interface_soundness_proofs.programs.Sources.{stands, named_by, shown_some}
use Rattle.interfaces_consistent.proofs.interface_soundness_proofs.programs.Depth.{of_source}
use Rattle.interfaces_consistent.proofs.interface_soundness_proofs.programs.Closing as closing
use Rattle.interfaces_consistent.proofs.interface_soundness_proofs.programs.Closing.{new_of}
use Rattle.units_well_formed.specs.imported_types_agree.consistent_types.Consistency.{home_of, between, IsAlike}
use Rattle.units_well_formed.proofs.imported_types_agree_proofs.consistent_types.Known.{keys_long, key_there, IsFirst, first_of}
use Rattle.units_well_formed.proofs.imported_types_agree_proofs.consistent_types.Shown.{shown_key}
use Rattle.interfaces_consistent.proofs.interfaces.Inherited.{homes, told_within}
use Rattle.shared_types_agree.specs.programs.Laws.{DeclarersLaw, ClassesLaw}
use Rattle.shared_types_agree.proofs.programs.Keys.{class_of, declared_at}
use Rattle.shared_types_agree.proofs.programs.Agreeing.{name_is}
use Rattle.shared_types_agree.proofs.programs.First.{Each, at_each}
use Rattle.shared_types_agree.proofs.programs.Units.{IsConsistentTable, typed_name}
use Rattle.shared_types_agree.proofs.programs.Units as units
use Rattle.shared_types_agree.proofs.programs.Whole.{not_system, contains_at, listed, typed_at, all_agree}
use Rattle.shared_types_agree.proofs.programs.Listed.{all_listed}

-- ---- object types

-- a renumbered type is an object type only where it was one
object_was : (ids : List TypeId) (unit : ℕ) (first : TypeDef) → IsObject (Some (renumbered ids unit first)) → IsObject (Some first)
object_was ids unit (type.Ordinal host low high) h = h
object_was ids unit (type.Str max) h = h
object_was ids unit (type.SetOf base) h = h
object_was ids unit (type.ArrayOf index element) h = h
object_was ids unit (type.RecordOf fields) h = h
object_was ids unit (type.PointerTo target) h = h
object_was ids unit (type.ObjectOf parent dynamic fields methods) h = tt
object_was ids unit (type.Procedural header) h = h

-- so it is an object type at home
object_home : (home table : Table) (first one : TypeDef) → IsAlike home table first one → IsObject (Some one) → IsObject (Some first)
object_home home table first one a object = object_was (between home table) a.unit first (subst (λ (x : TypeDef). IsObject (Some x)) a.is object)

abbrev IsPlain : TypeDef → Type 0
IsPlain one = IsObject (Some one) → ⊥

all_plain : Each IsPlain type_list
all_plain = (λ h. h, (λ h. h, (λ h. h, (λ h. h, (λ h. h, (λ h. h, (λ h. h, (λ h. h, (λ h. h, (λ h. h, (λ h. h, tt)))))))))))

-- a unit of a program is found by its name
unit_listed : (program : Program) → All (IsUnit program) program.units → (number : ℕ) (unit : typed.Unit) → slice_get program.units number ≡ Some unit → IsUnit program unit
unit_listed program by_name number unit at =
    subst (IsUnit program) (get_or_from_slice_get program.units number unit unit at) (by_name number unit (slice_get_within program.units number unit at))

-- ---- the typed unit of a source

module _ (sources : List Source) (have : List Interface) where
  record HasUnit (s : Source) (units : List typed.Unit) : Type 0 where
    number : ℕ
    unit : typed.Unit
    at : slice_get units number ≡ Some unit
    is : IsUnitOf have s unit

  behind : (s : Source) (u : typed.Unit) (us : List typed.Unit) → HasUnit s us → HasUnit s (u ∷ us)
  behind s u us h = record { number = suc h.number; unit = h.unit; at = h.at; is = h.is }

  unit_head : (place p : ℕ) (places : List ℕ) (s : Source) (found : Option Source) (units : List typed.Unit) → slice_get sources place ≡ Some s → slice_get sources p ≡ found
      → AllZip (IsUnitOf have) (option_to_list found ++ sources_at sources places) units → (place ≡ p) ⊎ (list_any (nat_eq place) places ≡ true)
      → ((us : List typed.Unit) → AllZip (IsUnitOf have) (sources_at sources places) us → list_any (nat_eq place) places ≡ true → HasUnit s us) → HasUnit s units
  unit_head place p places s None units at is zip (inl here) more = (let bad : None ≡ Some s = sym is ∙ subst (λ (k : ℕ). slice_get sources k ≡ Some s) here at in absurd (none-some s bad))
  unit_head place p places s None units at is zip (inr later) more = more units zip later
  unit_head place p places s (Some t) [] at is zip among more = absurd zip
  unit_head place p places s (Some t) (unit ∷ units) at is zip (inl here) more =
      let same : t ≡ s = same_Some t s (sym is ∙ subst (λ (k : ℕ). slice_get sources k ≡ Some s) here at) in
      record { number = 0; unit = unit; at = refl; is = subst (λ (x : Source). IsUnitOf have x unit) same zip.0 }
  unit_head place p places s (Some t) (unit ∷ units) at is zip (inr later) more = behind s unit units (more units zip.1 later)

  unit_at : (places : List ℕ) (units : List typed.Unit) (place : ℕ) (s : Source) → AllZip (IsUnitOf have) (sources_at sources places) units → list_any (nat_eq place) places ≡ true → slice_get sources place ≡ Some s → HasUnit s units
  unit_at [] units place s zip among at = absurd (cc)
  unit_at (p ∷ places) units place s zip among at =
      unit_head place p places s (slice_get sources p) units at refl zip
      (elim (one_true (nat_eq place p) (list_any (nat_eq place) places) among) [ inl here ↦ inl (eqb-true place p here) | inr later ↦ inr later ])
      (λ us z later. unit_at places us place s z later at)

-- ---- units of a program

module _ (alike : ShowsAlike) (sources : List Source) (have : List Interface) (o : AreInOrder sources have) (all : (place : ℕ) → IsDone sources have place) (kinds : AreOfKinds sources)
    (program : Program) (typed_units : AllZip (IsUnitOf have) (sources_at sources (start_order (all_uses sources) 0)) program.units) (by_name : All (IsUnit program) program.units) where
  abbrev places : List ℕ
  places = start_order (all_uses sources) 0

  -- what a unit's table tells
  so_told : (place : ℕ) (s : Source) → slice_get sources place ≡ Some s → (unit : typed.Unit) → IsUnitOf have s unit → IsConsistentTable have s.name unit.types
  so_told place s at unit is =
      let n = named_by (IsShownIn sources have) have s.name o.shown (shown_some have s.name (all place s at)) in
      let no_system = not_system sources place s (kinds place s at) in
      let of = of_source sources (new_of sources have o) have o.shown place s n.interface at n.found in
      units.of_source sources have o place s at no_system n.interface n.found s.tree (view_unit unit) is.typed of.shows (told_within sources have o place s n.interface at no_system n.found of)

  named : (s : Source) (unit : typed.Unit) → IsUnitOf have s unit → unit.name ≡ s.name
  named s unit is = typed_name s.name s.says (outer_scope have s) have s.tree (view_unit unit) is.typed

  -- a key of an interface is that of a type that a unit of the program declares
  shown_declared : (key : Key) (i : Interface) → interface_named have key.unit ≡ Some i → (q : ℕ) → slice_get (keys_of i.types) q ≡ Some key → IsDeclared program (class_of key)
  shown_declared key i found q at =
      let n = named_by (IsShownIn sources have) have key.unit o.shown (ap (λ (x : Option Interface). is_some x) found) in
      let s : Source = n.holds.source in
      let place : ℕ = n.holds.one.0 in
      let there : slice_get sources place ≡ Some s = stands sources s n.holds.one in
      let name : key.unit ≡ s.name = n.named ∙ n.holds.named in
      let h = unit_at sources have places program.units place s typed_units (all_in_order o.held o.name o.texts sources o.gathers place (slice_get_within sources place s there)) there in
      let unit : typed.Unit = h.unit in
      let told = so_told place s there unit h.is in
      let mine : interface_named have s.name ≡ Some i = ap (interface_named have) (sym name) ∙ found in
      let shows = alike sources have o s unit (contains_at sources place s there) h.is i mine in
      let key_at = shown_key (with_nothing_else (view_unit unit)) i shows told.told.keyed q key at in
      record {
        unit = unit;
        listed = unit_listed program by_name h.number unit h.at;
        named = name ∙ sym (named s unit h.is);
        ty = record { 0 = key_at.place };
        is = declared_at unit.types told.told.keyed key_at.place key key_at.at;
      }

  -- the home of an object type is an interface
  home_declared : (key : Key) (home : Table) (f : IsFirst home key) → home_of have key.unit ≡ Some home → IsObject (Some f.first) → IsDeclared program (class_of key)
  home_declared key home f is object = by (same_bytes key.unit system) (interface_named have key.unit) refl is
    where
      by : (b : Bool) (found : Option Interface) → interface_named have key.unit ≡ found → cond b (Some type_table) (option_map (λ (i : Interface). i.types) found) ≡ Some home → IsDeclared program (class_of key)
      by true found at e =
          let same : type_table ≡ home = same_Some type_table home e in
          absurd (at_each IsPlain type_list f.place f.first all_plain (subst (λ (t : Table). slice_get t.types f.place ≡ Some f.first) (sym same) f.stands) object)
      by false None at e = absurd (none-some home e)
      by false (Some i) at e = shown_declared key i at f.place (subst (λ (t : Table). slice_get (keys_of t) f.place ≡ Some key) (sym (same_Some i.types home e)) f.at)

  -- a type of the table of a unit
  type_declared : (unit : typed.Unit) → IsUnit program unit → (ty : TypeId) (one : TypeDef) → slice_get unit.types.types ty.0 ≡ Some one → IsObject (Some one) → (class : Class) → declared unit.types ty ≡ Some class → IsDeclared program class
  type_declared unit there ty one found object class is =
      let l = listed program.units unit.name unit there in
      let t = typed_at sources have places program.units l.number unit typed_units l.at in
      let told = (so_told t.place t.source t.at unit t.is).told in
      let name = named t.source unit t.is in
      let c = closing.units sources have o t.source unit t.is in
      let k = key_there unit.types ty.0 (omega (arith, slice_get_within unit.types.types ty.0 one found, keys_long unit.types c.ordered.paired)) in
      let key : Key = k.0 in
      let same : class_of key ≡ class = same_Some (class_of key) class (sym (declared_at unit.types told.keyed ty.0 key k.1) ∙ is) in
      subst (IsDeclared program) same
      (elim (name_is key.unit t.source.name) [
        | inl mine ↦ record { unit = unit; listed = there; named = mine ∙ sym name; ty = ty; is = declared_at unit.types told.keyed ty.0 key k.1 }
        | inr far ↦
            let h = told.at_home ty.0 key far k.1 in
            let f = first_of h.home key (homes sources have o key.unit h.home h.is) h.stands in
            let a = told.alike ty.0 f.place key h.home f.first one far k.1 found h.is f.at f.stands in
            home_declared key h.home f h.is (object_home h.home unit.types f.first one a object)
      ])

  pub sort_declared : (sort : Sort) (class : Class) → IsKnown program sort → IsObject (definition sort) → class_key sort ≡ Some class → IsDeclared program class
  sort_declared sort class known object is =
      type_declared known.unit known.listed sort.ty known.one (subst (λ (t : Table). slice_get t.types sort.ty.0 ≡ Some known.one) known.table known.is)
      (subst IsObject known.is object) class (subst (λ (t : Table). declared t sort.ty ≡ Some class) known.table is)

pub all_declared : ShowsAlike → DeclarersLaw
all_declared alike held name texts sources gathers program is =
    let u = is.units in
    let o : AreInOrder sources u.have = record { held = held; name = name; texts = texts; gathers = gathers; acyclic = u.acyclic; shown = u.interfaces.shown } in
    record { declarers = sort_declared alike sources u.have o u.interfaces.all u.kinds program u.typed (all_listed held name texts sources gathers program is) }

-- so each class of an object type is found by its key
pub all_classes : ((program : Program) → AreConsistent program → HasDeclarers program → HasClasses program) → ShowsAlike → ClassesLaw
all_classes law alike held name texts sources gathers program is kept =
    law program (all_agree alike held name texts sources gathers program is kept) (all_declared alike held name texts sources gathers program is)

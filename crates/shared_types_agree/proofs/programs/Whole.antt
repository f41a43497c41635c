-- The units of a program agree on their types.
use Rattle.std.proofs.Common.{◌≡◌, ◌∙◌, ℕ, zero, suc, Bool, true, false, not, ◌&&◌, ◌||◌, cond, nat_eq, eq-eqb, List, [], ◌∷◌, ◌++◌, Option, Some, None, refl, sym, ap, subst}
use Rattle.std.specs.Prelude.{Contains, codes, slice_get}
use Rattle.std.specs.Option.{option_to_list}
use Rattle.std.specs.List.{All, AllZip, list_any}
use Rattle.std.proofs.lemmas.Option.{same_Some, slice_get_within, get_or_from_slice_get}
use Rattle.unit_references.specs.type_layout.declared.definitions.TypeDef.TheVariants as type
use Rattle.unit_references.specs.type_layout.Words.{same_bytes}
use Rattle.unit_references.specs.type_layout.Table.{Table}
use Rattle.interfaces_consistent.specs.source_graph.declared.sources.Source.{Source}
use Rattle.unit_references.specs.typed_tree.declared.units.Unit as typed
use Rattle.unit_references.specs.tp_meaning.Programs.{unit_in}
use Rattle.unit_references.specs.store_typing.types.Agreement.{IsLawful}
use Rattle.units_well_formed.specs.scopes.Predeclared.{system}
use Rattle.units_well_formed.specs.unit_interface.declared.interfaces.Interface.{Interface}
use Rattle.units_well_formed.specs.unit_interface.Order.{start_order}
use Rattle.units_well_formed.specs.unit_interface.Resolve.{interface_named}
use Rattle.interfaces_consistent.specs.source_graph.source_order.Orders.{all_uses}
use Rattle.interfaces_consistent.specs.front_end.source_interfaces.Kinds.{is_program, is_used, is_reserved, is_of_kind}
use Rattle.interfaces_consistent.specs.front_end.source_interfaces.Scopes.{outer_scope}
use Rattle.interfaces_consistent.specs.front_end.source_interfaces.Interfaces.{IsShownIn}
use Rattle.units_well_formed.specs.tp_check_decl.Units.{view_unit}
use Rattle.units_well_formed.specs.tp_check_decl.Shown.{with_nothing_else, Shows}
use Rattle.interfaces_consistent.specs.front_end.Typed.{sources_at, IsUnitOf}
use Rattle.interfaces_consistent.specs.interface_soundness.programs.Closing.{AreInOrder, ShowsAlike}
use Rattle.interfaces_consistent.proofs.interface_soundness_proofs.programs.Sources.{named_by, shown_some}
use Rattle.interfaces_consistent.proofs.interface_soundness_proofs.programs.Depth.{of_source}
use Rattle.interfaces_consistent.proofs.interface_soundness_proofs.programs.Closing as closing
use Rattle.interfaces_consistent.proofs.interface_soundness_proofs.programs.Closing.{new_of}
use Rattle.units_well_formed.specs.imported_types_agree.consistent_types.Consistency.{home_of, IsWellScopedTable, IsConsistentWithOthers}
use Rattle.units_well_formed.proofs.imported_types_agree_proofs.consistent_types.Known.{own_named}
use Rattle.interfaces_consistent.proofs.interfaces.Inherited.{own_home, homes, told_within}
use Rattle.units_well_formed.specs.imported_types_agree.compatible_types.Fits.{HaveOwnMethods}
use Rattle.units_well_formed.proofs.imported_types_agree_proofs.compatible_types.Own.{own_told}
use Rattle.shared_types_agree.specs.programs.Consistency.{AreOwned, IsConsistentIn}
use Rattle.shared_types_agree.specs.programs.Laws.{IsKeptTable, ConsistencyLaw}
use Rattle.shared_types_agree.proofs.programs.Agreeing.{program_agrees}
use Rattle.shared_types_agree.proofs.programs.Units.{typed_name}
use Rattle.shared_types_agree.proofs.programs.Units as units

-- ---- names

first_not : (a b : Bool) → (not a && b) ≡ true → a ≡ false
first_not true b e = (let f : false ≡ true = e in cc)
first_not false b e = refl

second_not : (a b : Bool) → (a || b) ≡ false → b ≡ false
second_not true b e = (let f : true ≡ false = e in cc)
second_not false b e = e

-- no source of a program has the name of SYSTEM
pub not_system : (sources : List Source) (place : ℕ) (s : Source) → is_of_kind sources place s ≡ true → same_bytes s.name system ≡ false
not_system sources place s kind =
    second_not (same_bytes s.name (codes "OVERLAY")) (same_bytes s.name (codes "SYSTEM"))
    (first_not (is_reserved s.name) (cond (nat_eq place 0) (is_program s.tree && not (is_used sources s.name)) (not (is_program s.tree))) kind)

or_left : (a b : Bool) → a ≡ true → (a || b) ≡ true
or_left true b e = refl
or_left false b e = (let f : false ≡ true = e in cc)

or_right : (a b : Bool) → b ≡ true → (a || b) ≡ true
or_right true b e = refl
or_right false b e = e

-- ---- the source of a unit

pub record IsListed (units : List typed.Unit) (unit : typed.Unit) : Type 0 where
  pub number : ℕ
  pub at : slice_get units number ≡ Some unit

pub listed : (units : List typed.Unit) (name : List ℕ) (unit : typed.Unit) → unit_in units name ≡ Some unit → IsListed units unit
listed [] name unit found = absurd (cc)
listed (first ∷ rest) name unit found = by (same_bytes name first.name) found (λ more. listed rest name unit more)
  where
    by : (b : Bool) → (let o : Option typed.Unit = cond b (Some first) (unit_in rest name) in o) ≡ Some unit → (unit_in rest name ≡ Some unit → IsListed rest unit) → IsListed (first ∷ rest) unit
    by true e more = record { number = 0; at = e }
    by false e more = (let l = more e in record { number = suc l.number; at = l.at })

module _ (sources : List Source) (have : List Interface) where
  pub record IsTypedAt (places : List ℕ) (unit : typed.Unit) : Type 0 where
    pub place : ℕ
    pub among : list_any (nat_eq place) places ≡ true
    pub source : Source
    pub at : slice_get sources place ≡ Some source
    pub is : IsUnitOf have source unit

  later : (p : ℕ) (places : List ℕ) (unit : typed.Unit) → IsTypedAt places unit → IsTypedAt (p ∷ places) unit
  later p places unit t = record { place = t.place; among = or_right (nat_eq t.place p) (list_any (nat_eq t.place) places) t.among; source = t.source; at = t.at; is = t.is }

  typed_head : (p : ℕ) (places : List ℕ) (found : Option Source) (units : List typed.Unit) (number : ℕ) (unit : typed.Unit) → slice_get sources p ≡ found
      → AllZip (IsUnitOf have) (option_to_list found ++ sources_at sources places) units → slice_get units number ≡ Some unit
      → ((us : List typed.Unit) (n : ℕ) → AllZip (IsUnitOf have) (sources_at sources places) us → slice_get us n ≡ Some unit → IsTypedAt places unit) → IsTypedAt (p ∷ places) unit
  typed_head p places None units number unit is zip at more = later p places unit (more units number zip at)
  typed_head p places (Some s) [] number unit is zip at more = absurd zip
  typed_head p places (Some s) (u ∷ us) zero unit is zip at more = record {
    place = p;
    among = or_left (nat_eq p p) (list_any (nat_eq p) places) (eq-eqb p p refl);
    source = s;
    at = is;
    is = subst (λ (x : typed.Unit). IsUnitOf have s x) (same_Some u unit at) zip.0;
  }
  typed_head p places (Some s) (u ∷ us) (suc number) unit is zip at more = later p places unit (more us number zip.1 at)

  pub typed_at : (places : List ℕ) (units : List typed.Unit) (number : ℕ) (unit : typed.Unit) → AllZip (IsUnitOf have) (sources_at sources places) units → slice_get units number ≡ Some unit → IsTypedAt places unit
  typed_at [] [] number unit zip at = absurd (cc)
  typed_at [] (u ∷ us) number unit zip at = absurd zip
  typed_at (p ∷ places) units number unit zip at = typed_head p places (slice_get sources p) units number unit refl zip at (λ us n z e. typed_at places us n unit z e)

-- ---- units

pub contains_at : (sources : List Source) (place : ℕ) (source : Source) → slice_get sources place ≡ Some source → Contains sources source
contains_at sources place source at = (place, slice_get_within sources place source at, get_or_from_slice_get sources place source source at)

kept_at : (units : List typed.Unit) (number : ℕ) (unit : typed.Unit) → All (λ (u : typed.Unit). IsKeptTable u.types) units → slice_get units number ≡ Some unit → IsKeptTable unit.types
kept_at units number unit kept at =
    subst (λ (u : typed.Unit). IsKeptTable u.types) (get_or_from_slice_get units number unit unit at) (kept number unit (slice_get_within units number unit at))

methods_of : (name : List ℕ) (table : Table) → AreOwned table → HaveOwnMethods name table
methods_of name table owned number key one at mine stands = (let o = owned number key one at stands in (o.place, o.methods))

lawful : (table : Table) → IsKeptTable table → IsWellScopedTable table → IsLawful table
lawful table kept closed = record {
  well_formed = kept.well_formed;
  short = kept.short;
  targets = λ k target at. (own_named table k (type.PointerTo target) closed at).0;
}

module _ (alike : ShowsAlike) (sources : List Source) (have : List Interface) (o : AreInOrder sources have) (place : ℕ) (s : Source) (at : slice_get sources place ≡ Some s) (no_system : same_bytes s.name system ≡ false)
    (mine : Interface) (is_mine : interface_named have s.name ≡ Some mine) (unit : typed.Unit) (is : IsUnitOf have s unit) (kept : IsKeptTable unit.types) where
  told_in : IsConsistentIn have unit
  told_in =
      let of = of_source sources (new_of sources have o) have o.shown place s mine at is_mine in
      let so = units.of_source sources have o place s at no_system mine is_mine s.tree (view_unit unit) is.typed of.shows (told_within sources have o place s mine at no_system is_mine of) in
      let c = closing.units sources have o s unit is in
      let closed : IsWellScopedTable unit.types = record { paired = c.ordered.paired; types = c.types } in
      let named : unit.name ≡ s.name = typed_name s.name s.says (outer_scope have s) have s.tree (view_unit unit) is.typed in
      let but : IsConsistentWithOthers have unit.name unit.types = subst (λ (n : List ℕ). IsConsistentWithOthers have n unit.types) (sym named) so.told in
      let home : home_of have unit.name ≡ Some mine.types = ap (home_of have) named ∙ own_home have s.name mine no_system is_mine in
      let shows : Shows (view_unit unit) mine = alike sources have o s unit (contains_at sources place s at) is mine is_mine in
      let told = own_told have (with_nothing_else (view_unit unit)) mine shows but closed home (methods_of unit.name unit.types so.owned) in
      record { lawful = lawful unit.types kept closed; closed = closed; owned = so.owned; told = but; own = λ table there. told.alike }

pub all_agree : ShowsAlike → ConsistencyLaw
all_agree alike held name texts sources gathers program is kept =
    let u = is.units in
    let o : AreInOrder sources u.have = record { held = held; name = name; texts = texts; gathers = gathers; acyclic = u.acyclic; shown = u.interfaces.shown } in
    program_agrees u.have (homes sources u.have o) program
    (λ unit there.
    let l = listed program.units unit.name unit there in
    let t = typed_at sources u.have (start_order (all_uses sources) 0) program.units l.number unit u.typed l.at in
    let n = named_by (IsShownIn sources u.have) u.have t.source.name o.shown (shown_some u.have t.source.name (u.interfaces.all t.place t.source t.at)) in
    told_in alike sources u.have o t.place t.source t.at (not_system sources t.place t.source (u.kinds t.place t.source t.at)) n.interface n.found unit t.is (kept_at program.units l.number unit kept l.at))

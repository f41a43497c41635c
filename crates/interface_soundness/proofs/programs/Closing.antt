-- The interfaces and typed units of a program are closed.
use Rattle.std.proofs.Common.{◌≡◌, ℕ, true, List, [], ◌∷◌, Some, Contains, subst}
use Rattle.std.specs.List.{All, AllZip}
use Rattle.std.proofs.lemmas.List.Elements.{All-weaker, All-cons, All-nil}
use Rattle.front_end.specs.typed_tree.declared.units.Unit.{Unit}
use Rattle.front_end.specs.source_graph.declared.sources.Source.{Source}
use Rattle.front_end.specs.source_graph.Whole.{AreNew}
use Rattle.front_end.proofs.source_graph_proofs.WholeLaws.{is_whole}
use Rattle.front_end.specs.scopes.Predeclared.{first}
use Rattle.front_end.specs.unit_interface.declared.interfaces.Interface.{Interface}
use Rattle.front_end.specs.unit_interface.Resolve.{interface_named}
use Rattle.front_end.specs.unit_interface.Fitting.{uses_fit}
use Rattle.front_end.specs.source_graph.source_order.Orders.{names_of}
use Rattle.front_end.proofs.typing_rules_proofs.JudgementLaws.{exact}
use Rattle.front_end.specs.tp_check_decl.Units.{Whole, view_unit}
use Rattle.front_end.specs.tp_check_decl.Shown.{Shows, outlined}
use Rattle.front_end.proofs.tp_check_decl_proofs.CheckLaws.{lawful_outlined}
use Rattle.front_end.specs.source_interfaces.Scopes.{outer_units, outer_scope}
use Rattle.front_end.specs.source_interfaces.Interfaces.{IsShownIn, AreShown, IsAcyclic}
use Rattle.front_end.specs.Typed.{IsUnitOf, in_order}
use Rattle.imported_types_agree.specs.well_scoped.Scopes.{IsCompleteScope, IsWellScopedInterface, IsWellScopedUse, AreWellScopedUses}
use Rattle.imported_types_agree.proofs.well_scoped.Beginning.{first_complete}
use Rattle.imported_types_agree.proofs.well_scoped.Using.{uses_complete}
use Rattle.interface_soundness.specs.tables.Tables.{IsWellScopedUnit, ShowAlike}
use Rattle.interface_soundness.proofs.tables.Ending.{interface_closed, unit_closed}
use Rattle.interface_soundness.specs.programs.Closing.{AreInOrder, ShowsAlike, WellScopedUnits}
use Rattle.interface_soundness.proofs.programs.Sources.{stands}
use Rattle.interface_soundness.proofs.programs.Depth.{IsOf, of_shown, AreUses, of_source, inherited, all_inherited}

module _ (sources : List Source) (new : AreNew [] sources) (have : List Interface) (shown : AreShown sources have) where
  pub closed_uses : (names : List (List ℕ)) → AreUses IsWellScopedInterface have names → AreWellScopedUses have names
  closed_uses [] h = tt
  closed_uses (name ∷ names) h = (h.0, closed_uses names h.1)

  pub outer_complete : (s : Source) → AreUses IsWellScopedInterface have (names_of (outer_units s)) → uses_fit have (first s.name) (names_of (outer_units s)) ≡ true → IsCompleteScope (outer_scope have s)
  outer_complete s closed fits = uses_complete have (first s.name) (names_of (outer_units s)) (first_complete s.name) (closed_uses (names_of (outer_units s)) closed) fits

  closed_over : (s : Source) (i : Interface) → AreUses IsWellScopedInterface have (names_of (outer_units s)) → IsOf have s i → IsWellScopedInterface i
  closed_over s i closed own = interface_closed s.name s.says (outer_scope have s) s.tree i (outer_complete s closed own.fits) own.shows

  module _ (acyclic : IsAcyclic sources) where
    pub use_closed : (name : List ℕ) → IsWellScopedUse have name
    use_closed name other i is = inherited sources new have shown IsWellScopedInterface (λ place s i at is uses own. closed_over s i uses own) acyclic name other i is

    pub uses_closed : (names : List (List ℕ)) → AreUses IsWellScopedInterface have names
    uses_closed names = all_inherited sources new have shown IsWellScopedInterface (λ place s i at is uses own. closed_over s i uses own) acyclic names

    pub complete_over : (s : Source) → uses_fit have (first s.name) (names_of (outer_units s)) ≡ true → IsCompleteScope (outer_scope have s)
    complete_over s fits = outer_complete s (uses_closed (names_of (outer_units s))) fits

    -- each interface, also one that stands behind another of its name
    shown_closed : (i : Interface) → IsShownIn sources have i → IsWellScopedInterface i
    shown_closed i h = closed_over h.source i (uses_closed (names_of (outer_units h.source))) (of_shown sources have i h)

    each_closed : (all : List Interface) → All (IsShownIn sources have) all → All IsWellScopedInterface all
    each_closed all h = All-weaker (IsShownIn sources have) IsWellScopedInterface (λ i k. shown_closed i k) all h

    -- its interface is what the typed unit shows
    shown_by_unit : ShowAlike → (s : Source) (unit : Unit) → Contains sources s → IsUnitOf have s unit → (i : Interface) → interface_named have s.name ≡ Some i → Shows (view_unit unit) i
    shown_by_unit law s unit one h i found =
        let own = of_source sources new have shown one.0 s i (stands sources s one) found in
        let g = outer_scope have s in
        let alike = law s.name s.says g have s.tree (view_unit unit) (complete_over s h.fits) h.typed in
        let outlines = exact (outlined s.name s.says g) (lawful_outlined s.name s.says g) in
        let same : own.shows.unit ≡ alike.outline = outlines.one s.tree own.shows.unit alike.outline own.shows.holds alike.holds in
        (alike.same i).1 (subst (λ (w : Whole). Shows w i) same own.shows.shows)

    whole_closed : (s : Source) (unit : Unit) → IsUnitOf have s unit → IsWellScopedUnit unit.types unit.items
    whole_closed s unit h = unit_closed s.name s.says (outer_scope have s) have s.tree (view_unit unit) (complete_over s h.fits) use_closed h.typed

-- ---- the laws

pub new_of : (sources : List Source) (have : List Interface) → AreInOrder sources have → AreNew [] sources
new_of sources have o = (is_whole o.held o.name o.texts sources o.gathers).once

pub interfaces : (sources : List Source) (have : List Interface) → AreInOrder sources have → All IsWellScopedInterface have
interfaces sources have o = each_closed sources (new_of sources have o) have o.shown o.acyclic have o.shown

pub scopes : (sources : List Source) (have : List Interface) → AreInOrder sources have → (source : Source) (unit : Unit) → IsUnitOf have source unit
    → IsCompleteScope (outer_scope have source)
scopes sources have o source unit h = complete_over sources (new_of sources have o) have o.shown o.acyclic source h.fits

pub uses : (sources : List Source) (have : List Interface) → AreInOrder sources have → (name : List ℕ) → IsWellScopedUse have name
uses sources have o name = use_closed sources (new_of sources have o) have o.shown o.acyclic name

pub units : (sources : List Source) (have : List Interface) → AreInOrder sources have → (source : Source) (unit : Unit) → IsUnitOf have source unit → IsWellScopedUnit unit.types unit.items
units sources have o source unit h = whole_closed sources (new_of sources have o) have o.shown o.acyclic source unit h

pub shows_alike : ShowAlike → ShowsAlike
shows_alike law sources have o source unit one h i found = shown_by_unit sources (new_of sources have o) have o.shown o.acyclic law source unit one h i found

units_in : (P : Unit → Type 0) (have : List Interface) → ((source : Source) (unit : Unit) → IsUnitOf have source unit → P unit) → (ss : List Source) (us : List Unit)
    → AllZip (IsUnitOf have) ss us → All P us
units_in P have each [] [] all = All-nil P
units_in P have each [] (u ∷ us) all = absurd all
units_in P have each (s ∷ ss) [] all = absurd all
units_in P have each (s ∷ ss) (u ∷ us) all = All-cons P u us (each s u all.0) (units_in P have each ss us all.1)

pub closed_units : WellScopedUnits
closed_units held name texts sources gathers program is =
    let u = is.units in
    let o : AreInOrder sources u.have = record { held = held; name = name; texts = texts; gathers = gathers; acyclic = u.acyclic; shown = u.interfaces.shown } in
    units_in (λ (unit : Unit). IsWellScopedUnit unit.types unit.items) u.have (λ s unit h. units sources u.have o s unit h) (in_order sources) program.units u.typed

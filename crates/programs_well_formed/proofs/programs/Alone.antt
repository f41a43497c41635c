-- Sources that use no unit but OVERLAY.
use Rattle.std.proofs.Common.{◌≡◌, ℕ, zero, suc, true, List, [], ◌∷◌, ◌++◌, take, drop, Option, Some, None, refl, subst}
use Rattle.std.specs.Prelude.{slice_get}
use Rattle.std.specs.Option.{option_to_list}
use Rattle.std.specs.List.{All, AllZip}
use Rattle.std.proofs.lemmas.List.Elements.{All-head, All-tail, All-cons, All-nil}
use Rattle.units_well_formed.specs.syntax_tree.declared.identifier.Identifier.{Identifier}
use Rattle.units_well_formed.specs.typed_tree.declared.units.Unit as typed
use Rattle.units_well_formed.specs.well_formed.WellFormed.{IsWellFormed}
use Rattle.units_well_formed.specs.syntax_tree.source_tree.Sources.{used, used_in_interface}
use Rattle.units_well_formed.specs.syntax_tree.declared.source_tree.source.Tree.{Tree}
use Rattle.units_well_formed.specs.syntax_tree.declared.source_tree.source.Tree.TheVariants as t
use Rattle.interfaces_consistent.specs.source_graph.declared.sources.Source.{Source}
use Rattle.units_well_formed.specs.unit_interface.declared.interfaces.Interface.{Interface}
use Rattle.units_well_formed.specs.unit_interface.Order.{start_order}
use Rattle.units_well_formed.specs.unit_interface.Resolve.{is_overlay}
use Rattle.interfaces_consistent.specs.source_graph.source_order.Orders.{names_of, all_uses}
use Rattle.interfaces_consistent.specs.front_end.source_interfaces.Scopes.{outer_units}
use Rattle.interfaces_consistent.specs.front_end.Typed.{sources_at, in_order, IsUnitOf}
use Rattle.programs_well_formed.specs.imported_interfaces.Below.{EachUse, further_uses, IsRoomy, AreOverlay, BareLaw}
use Rattle.programs_well_formed.specs.programs.Laws.{IsAlone, UnitLaw, ProgramLaw}

abbrev IsOverlay : Identifier → Type 0
IsOverlay one = is_overlay one.name ≡ true

each_first : (count : ℕ) (uses : List Identifier) → EachUse IsOverlay uses → AreOverlay (names_of (take count uses))
each_first zero uses h = tt
each_first (suc count) [] h = tt
each_first (suc count) (one ∷ rest) h = (h.0, each_first count rest h.1)

each_last : (count : ℕ) (uses : List Identifier) → EachUse IsOverlay uses → EachUse IsOverlay (drop count uses)
each_last zero uses h = h
each_last (suc count) [] h = tt
each_last (suc count) (one ∷ rest) h = each_last count rest h.1

further : (tree : Tree) → EachUse IsOverlay (used tree) → EachUse IsOverlay (further_uses tree)
further (t.Program heading uses all body) h = tt
further (t.Unit here own uses outer interface all body) h = each_last outer uses.items h

pub unit_formed : BareLaw → UnitLaw
unit_formed bare have source unit h alone room =
    (bare source.name source.says have (names_of (outer_units source)) source.tree unit alone.named (each_first (used_in_interface source.tree) (used source.tree) alone.uses) (further source.tree alone.uses) alone.written room h.typed).formed

-- ---- programs

-- what holds of all sources holds of those at some places
pub at_place : (P : Source → Type 0) (sources : List Source) (place : ℕ) (one : Source) → All P sources → slice_get sources place ≡ Some one → P one
at_place P [] zero one h e = (let bad : ⊥ = cc in absurd bad)
at_place P [] (suc place) one h e = (let bad : ⊥ = cc in absurd bad)
at_place P (first ∷ rest) zero one h e = (let same : first ≡ one = cc in subst P same (All-head P first rest h))
at_place P (first ∷ rest) (suc place) one h e = at_place P rest place one (All-tail P first rest h) e

at_places : (P : Source → Type 0) (sources : List Source) (places : List ℕ) → All P sources → All P (sources_at sources places)
at_places P sources [] h = All-nil P
at_places P sources (place ∷ places) h = by (slice_get sources place) refl (at_places P sources places h)
  where
    by : (o : Option Source) → slice_get sources place ≡ o → All P (sources_at sources places) → All P (option_to_list o ++ sources_at sources places)
    by None e rest = rest
    by (Some one) e rest = All-cons P one (sources_at sources places) (at_place P sources place one h e) rest

all_formed : UnitLaw → (have : List Interface) (sources : List Source) (units : List typed.Unit) → AllZip (IsUnitOf have) sources units → All IsAlone sources → All IsRoomy units → All IsWellFormed units
all_formed law have [] [] z a r = All-nil IsWellFormed
all_formed law have [] (u ∷ us) z a r = absurd z
all_formed law have (s ∷ ss) [] z a r = absurd z
all_formed law have (s ∷ ss) (u ∷ us) z a r =
    All-cons IsWellFormed u us (law have s u z.0 (All-head IsAlone s ss a) (All-head IsRoomy u us r))
    (all_formed law have ss us z.1 (All-tail IsAlone s ss a) (All-tail IsRoomy u us r))

pub program_formed : UnitLaw → ProgramLaw
program_formed law sources program is alone room =
    all_formed law is.units.have (in_order sources) program.units is.units.typed (at_places IsAlone sources (start_order (all_uses sources) 0) alone) room

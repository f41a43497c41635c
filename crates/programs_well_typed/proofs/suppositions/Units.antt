-- The units of a program by the sources that they come of, and by the interfaces that these show.
use Rattle.std.proofs.Common.{◌≡◌, ◌∙◌, ◌⊎◌, inl, inr, ℕ, suc, true, nat_eq, eqb-true, false, List, [], ◌∷◌, ◌++◌, Option, Some, None, refl, sym, ap, subst}
use Rattle.std.specs.Prelude.{slice_get, is_some}
use Rattle.std.specs.Option.{option_to_list}
use Rattle.std.specs.List.{All, AllZip, list_any}
use Rattle.std.proofs.lemmas.Option.{none-some, same_Some, slice_get_within, get_or_from_slice_get}
use Rattle.shared_types_agree.specs.source_graph.declared.sources.Source.{Source}
use Rattle.shared_types_agree.specs.typed_tree.declared.units.Unit as typed
use Rattle.shared_types_agree.specs.typed_tree.declared.units.Program.{Program}
use Rattle.shared_types_agree.specs.well_formed.WellFormed.{IsItem, IsWellFormed}
use Rattle.shared_types_agree.specs.store_typing.types.Agreement.{IsUnit}
use Rattle.shared_types_agree.specs.unit_interface.declared.interfaces.Interface.{Interface}
use Rattle.shared_types_agree.specs.unit_interface.Order.{start_order}
use Rattle.shared_types_agree.specs.unit_interface.Resolve.{is_overlay, interface_named}
use Rattle.shared_types_agree.proofs.unit_interface_proofs.CircleLaws.{one_true}
use Rattle.shared_types_agree.specs.source_graph.source_order.Orders.{all_uses}
use Rattle.shared_types_agree.proofs.source_graph_proofs.source_order.Reached.{in_order as all_in_order}
use Rattle.shared_types_agree.specs.methods.Below.{AreOfKinds, outer_scope, IsShownIn, IsDone, view_unit, sources_at, IsUnitOf, AreInOrder, ShowsAlike}
use Rattle.shared_types_agree.proofs.methods.BelowMore as closing
use Rattle.shared_types_agree.proofs.methods.BelowMore.{of_source, new_of}
use Rattle.shared_types_agree.proofs.methods.Below as units
use Rattle.shared_types_agree.proofs.methods.Below.{stands, named_by, shown_some, told_within, IsConsistentTable, AreUsedSo, typed_name, not_system, contains_at}
use Rattle.shared_types_agree.specs.unit_references.Units.{HasSoundParts}
use Rattle.programs_well_typed.proofs.suppositions.Shown.{IsShownUnit}

-- what all of a list keep
pub all_at : {X : Type 0} (P : X → Type 0) (xs : List X) (place : ℕ) (x : X) → All P xs → slice_get xs place ≡ Some x → P x
all_at P xs place x all at = subst P (get_or_from_slice_get xs place x x at) (all place x (slice_get_within xs place x at))

-- ---- the typed unit of a source

module _ (sources : List Source) (have : List Interface) where
  record HasUnit (s : Source) (units : List typed.Unit) : Type 0 where
    number : ℕ
    unit : typed.Unit
    at : slice_get units number ≡ Some unit
    is : IsUnitOf have s unit

  behind : (s : Source) (u : typed.Unit) (us : List typed.Unit) → HasUnit s us → HasUnit s (u ∷ us)
  behind s u us h = record { number = suc h.number; unit = h.unit; at = h.at; is = h.is }

  unit_head : (place p : ℕ) (places : List ℕ) (s : Source) (found : Option Source) (units : List typed.Unit) → slice_get sources place ≡ Some s → slice_get sources p ≡ found
      → AllZip (IsUnitOf have) (option_to_list found ++ sources_at sources places) units → (place ≡ p) ⊎ (list_any (nat_eq place) places ≡ true)
      → ((us : List typed.Unit) → AllZip (IsUnitOf have) (sources_at sources places) us → list_any (nat_eq place) places ≡ true → HasUnit s us) → HasUnit s units
  unit_head place p places s None units at is zip (inl here) more = (let bad : None ≡ Some s = sym is ∙ subst (λ (k : ℕ). slice_get sources k ≡ Some s) here at in absurd (none-some s bad))
  unit_head place p places s None units at is zip (inr later) more = more units zip later
  unit_head place p places s (Some t) [] at is zip among more = absurd zip
  unit_head place p places s (Some t) (unit ∷ units) at is zip (inl here) more =
      let same : t ≡ s = same_Some t s (sym is ∙ subst (λ (k : ℕ). slice_get sources k ≡ Some s) here at) in
      record { number = 0; unit = unit; at = refl; is = subst (λ (x : Source). IsUnitOf have x unit) same zip.0 }
  unit_head place p places s (Some t) (unit ∷ units) at is zip (inr later) more = behind s unit units (more units zip.1 later)

  unit_at : (places : List ℕ) (units : List typed.Unit) (place : ℕ) (s : Source) → AllZip (IsUnitOf have) (sources_at sources places) units → list_any (nat_eq place) places ≡ true → slice_get sources place ≡ Some s → HasUnit s units
  unit_at [] units place s zip among at = absurd (cc)
  unit_at (p ∷ places) units place s zip among at =
      unit_head place p places s (slice_get sources p) units at refl zip
      (elim (one_true (nat_eq place p) (list_any (nat_eq place) places) among) [ inl here ↦ inl (eqb-true place p here) | inr later ↦ inr later ])
      (λ us z later. unit_at places us place s z later at)

-- ---- the sources of a program

module _ (sources : List Source) (have : List Interface) (o : AreInOrder sources have) (all : (place : ℕ) → IsDone sources have place) (kinds : AreOfKinds sources) where
  -- what is known of a unit that a source is
  pub record IsTold (s : Source) (unit : typed.Unit) (is : IsUnitOf have s unit) : Type 0 where
    pub told : IsConsistentTable have s.name unit.types
    pub used : AreUsedSo have s.name s.says (outer_scope have s) s.tree (view_unit unit) is.typed

  pub unit_told : (place : ℕ) (s : Source) → slice_get sources place ≡ Some s → (unit : typed.Unit) (is : IsUnitOf have s unit) → IsTold s unit is
  unit_told place s at unit is =
      let n = named_by (IsShownIn sources have) have s.name o.shown (shown_some have s.name (all place s at)) in
      let no_system = not_system sources place s (kinds place s at) in
      let of = of_source sources (new_of sources have o) have o.shown place s n.interface at n.found in
      let within = told_within sources have o place s n.interface at no_system n.found of in
      record {
        told = units.of_source sources have o place s at no_system n.interface n.found s.tree (view_unit unit) is.typed of.shows within;
        used = units.used_so sources have o place s at no_system n.interface n.found s.tree (view_unit unit) is.typed of.shows within;
      }

  module _ (alike : ShowsAlike) (program : Program) (typed_units : AllZip (IsUnitOf have) (sources_at sources (start_order (all_uses sources) 0)) program.units) (by_name : All (IsUnit program) program.units)
      (formed : All IsWellFormed program.units) (parts : All HasSoundParts program.units) where
    -- an interface is shown by a unit of the program
    pub shown_unit : (word : List ℕ) → is_overlay word ≡ false → (i : Interface) → interface_named have word ≡ Some i → IsShownUnit program i
    shown_unit word other i found =
        let n = named_by (IsShownIn sources have) have word o.shown (ap (λ (x : Option Interface). is_some x) found) in
        let s : Source = n.holds.source in
        let place : ℕ = n.holds.one.0 in
        let there : slice_get sources place ≡ Some s = stands sources s n.holds.one in
        let same : n.interface ≡ i = same_Some n.interface i (sym n.found ∙ found) in
        let name : word ≡ s.name = n.named ∙ n.holds.named in
        let h = unit_at sources have (start_order (all_uses sources) 0) program.units place s typed_units (all_in_order o.held o.name o.texts sources o.gathers place (slice_get_within sources place s there)) there in
        let unit : typed.Unit = h.unit in
        let named : unit.name ≡ s.name = typed_name s.name s.says (outer_scope have s) have s.tree (view_unit unit) h.is.typed in
        let mine : interface_named have s.name ≡ Some i = ap (interface_named have) (sym name) ∙ found in
        record {
          unit = unit;
          listed = all_at (IsUnit program) program.units h.number unit by_name h.at;
          own = (all_at HasSoundParts program.units h.number unit parts h.at).own;
          named = ap (λ (x : Interface). x.name) (sym same) ∙ n.holds.named ∙ sym named;
          shows = alike sources have o s unit (contains_at sources place s there) h.is i mine;
          keyed = (unit_told place s there unit h.is).told.told.keyed;
          closed = closing.units sources have o s unit h.is;
          items = λ at one stands. all_at (IsItem unit) unit.items at one (all_at IsWellFormed program.units h.number unit formed h.at).items stands;
        }

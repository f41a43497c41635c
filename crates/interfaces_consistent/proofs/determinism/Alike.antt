-- Sources that are alike are the same programs.
use Rattle.std.proofs.Common.{◌≡◌, ℕ, zero, suc, Bool, true, not, ◌||◌, ◌&&◌, cond, nat_eq, List, [], ◌∷◌, ◌++◌, drop, Option, Some, None, refl, sym, ap, ◌∙◌, subst}
use Rattle.std.specs.Prelude.{slice_get, option_to_list}
use Rattle.std.specs.List.{AllZip, list_any}
use Rattle.interface_soundness.specs.type_layout.Words.{same_bytes}
use Rattle.std.proofs.lemmas.List.Elements.{All-weaker}
use Rattle.std.proofs.lemmas.Option.{slice_get_within, get_or_from_slice_get}
use Rattle.interface_soundness.specs.typed_tree.declared.units.Unit.{Unit as TypedUnit}
use Rattle.interface_soundness.specs.typed_tree.declared.units.Program.{Program}
use Rattle.interface_soundness.specs.syntax_tree.declared.identifier.Identifier.{Identifier}
use Rattle.interface_soundness.specs.tp_lexer.declared.source_directives.collected.Directives.{Directives}
use Rattle.interface_soundness.specs.syntax_tree.declared.source_tree.source.Tree.{Tree}
use Rattle.interface_soundness.specs.syntax_tree.declared.source_tree.source.Tree.TheVariants as t
use Rattle.interface_soundness.specs.syntax_tree.source_tree.Sources.{of_tree, used, used_in_interface}
use Rattle.interface_soundness.specs.source_graph.declared.sources.Source.{Source}
use Rattle.interface_soundness.specs.scopes.Environment.{Environment}
use Rattle.interface_soundness.specs.typing_rules.Judgements.{Judgement}
use Rattle.interface_soundness.specs.unit_interface.declared.interfaces.Interface.{Interface}
use Rattle.interface_soundness.specs.unit_interface.declared.edges.UsesOf.{UsesOf}
use Rattle.interface_soundness.specs.unit_interface.Uses.{interface_edges}
use Rattle.interface_soundness.specs.unit_interface.Circles.{IsOnCircle}
use Rattle.interface_soundness.specs.unit_interface.Order.{start_order}
use Rattle.interface_soundness.specs.source_graph.source_order.Orders.{names_of, uses_in, all_uses}
use Rattle.interface_soundness.specs.tp_check_decl.Units.{Whole, view_unit}
use Rattle.interface_soundness.specs.tp_check_decl.Checked.{judged, IsTypedAs}
use Rattle.interface_soundness.specs.tp_check_decl.Shown.{IsShownAs, outlined}
use Rattle.interface_soundness.specs.front_end.source_interfaces.Scopes.{outer_units, outer_scope, is_shown, known, AreThere, AreFitting}
use Rattle.interface_soundness.specs.front_end.source_interfaces.Kinds.{is_program, uses_named, is_used, is_reserved, is_of_kind, AreOfKinds}
use Rattle.interface_soundness.specs.front_end.source_interfaces.Interfaces.{IsShownIn, IsDone, AreInterfaces, IsAcyclic}
use Rattle.interface_soundness.specs.front_end.Typed.{sources_at, in_order, IsUnitOf, IsProgram}
use Rattle.interface_soundness.specs.source_graph.determinism.Alike.{IsAlike, AreAlike}
use Rattle.interface_soundness.specs.source_graph.determinism.Laws.{UseAlike}
use Rattle.interface_soundness.proofs.source_graph_proofs.determinism.Uses.{uses_alike}
use Rattle.interface_soundness.proofs.address_independence_proofs.spelling.Trees.{judged_alike, outlined_alike}
use Rattle.interface_soundness.proofs.programs.Sources.{stands}

-- ---- one source

kind_alike : (x y : Tree) → of_tree x ≡ of_tree y → is_program x ≡ is_program y
kind_alike (t.Program heading uses all body) (t.Program heading' uses' all' body') same = refl
kind_alike (t.Unit here own uses n interface all body) (t.Unit here' own' uses' n' interface' all' body') same = refl
kind_alike (t.Program heading uses all body) (t.Unit here' own' uses' n' interface' all' body') same = absurd (cc)
kind_alike (t.Unit here own uses n interface all body) (t.Program heading' uses' all' body') same = absurd (cc)

held_too : (j k : Judgement Whole) → j ≡ k → (unit : Whole) → j.holds unit → k.holds unit
held_too j k same unit h = subst (λ (x : Judgement Whole). x.holds unit) same h

module _ (s o : Source) (a : IsAlike s o) where
  use_alike : UseAlike s.tree o.tree
  use_alike = uses_alike s.tree o.tree a.tree

  outer_alike : outer_units s ≡ outer_units o
  outer_alike = use_alike.outer

  uses_in_alike : uses_in s ≡ uses_in o
  uses_in_alike =
      ap (λ (n : List ℕ). record { name = n; interface = names_of (outer_units s); implementation = names_of (drop (used_in_interface s.tree) (used s.tree)) }) a.name
      ∙ ap (λ (u : List Identifier). record { name = o.name; interface = names_of u; implementation = names_of (drop (used_in_interface s.tree) (used s.tree)) }) use_alike.outer
      ∙ ap (λ (u : List Identifier). record { name = o.name; interface = names_of (outer_units o); implementation = names_of u }) use_alike.inner

  scope_alike : (have : List Interface) → outer_scope have s ≡ outer_scope have o
  scope_alike have = ap (λ (n : List ℕ). known have n (outer_units s)) a.name ∙ ap (λ (u : List Identifier). known have o.name u) outer_alike

  fits_alike : (have : List Interface) → AreFitting have s.name (outer_units s) → AreFitting have o.name (outer_units o)
  fits_alike have h = subst (λ (u : List Identifier). AreFitting have o.name u) outer_alike (subst (λ (n : List ℕ). AreFitting have n (outer_units s)) a.name h)

  typed_alike : (have : List Interface) (unit : Whole) → IsTypedAs s.name s.says (outer_scope have s) have s.tree unit → IsTypedAs o.name o.says (outer_scope have o) have o.tree unit
  typed_alike have unit h =
      subst (λ (g : Environment). IsTypedAs o.name o.says g have o.tree unit) (scope_alike have)
      (subst (λ (d : Directives). IsTypedAs o.name d (outer_scope have s) have o.tree unit) a.says
      (subst (λ (n : List ℕ). IsTypedAs n s.says (outer_scope have s) have o.tree unit) a.name
      (held_too (judged s.name s.says (outer_scope have s) have s.tree) (judged s.name s.says (outer_scope have s) have o.tree) (judged_alike s.name s.says (outer_scope have s) have s.tree o.tree a.whole a.tree) unit h)))

  outlines_alike : (have : List Interface) (unit : Whole) → (outlined s.name s.says (outer_scope have s) s.tree).holds unit → (outlined o.name o.says (outer_scope have o) o.tree).holds unit
  outlines_alike have unit h =
      subst (λ (g : Environment). (outlined o.name o.says g o.tree).holds unit) (scope_alike have)
      (subst (λ (d : Directives). (outlined o.name d (outer_scope have s) o.tree).holds unit) a.says
      (subst (λ (n : List ℕ). (outlined n s.says (outer_scope have s) o.tree).holds unit) a.name
      (held_too (outlined s.name s.says (outer_scope have s) s.tree) (outlined s.name s.says (outer_scope have s) o.tree) (outlined_alike s.name s.says (outer_scope have s) s.tree o.tree a.whole a.tree) unit h)))

  unit_alike : (have : List Interface) (unit : TypedUnit) → IsUnitOf have s unit → IsUnitOf have o unit
  unit_alike have unit h = record {
    there = subst (λ (u : List Identifier). AreThere have u) use_alike.all h.there;
    fits = fits_alike have h.fits;
    typed = typed_alike have (view_unit unit) h.typed;
  }

  shown_as_alike : (have : List Interface) (i : Interface) → IsShownAs s.name s.says (outer_scope have s) s.tree i → IsShownAs o.name o.says (outer_scope have o) o.tree i
  shown_as_alike have i h = record { unit = h.unit; holds = outlines_alike have h.unit h.holds; shows = h.shows }

-- ---- sources at places

-- two of them at the same place, or none
abbrev AreBothAlike : Option Source → Option Source → Type 0
AreBothAlike None None = Unit {0}
AreBothAlike (Some s) (Some o) = IsAlike s o
AreBothAlike None (Some o) = ⊥
AreBothAlike (Some s) None = ⊥

-- the one of two lists at a place where the other has this source
record IsMatched (found : Option Source) (R : Source → Type 0) : Type 0 where
  pub source : Source
  pub is : found ≡ Some source
  pub alike : R source

matched_right : (one : Option Source) (other : Option Source) (o : Source) → AreBothAlike one other → other ≡ Some o → IsMatched one (λ s. IsAlike s o)
matched_right None None o both at = absurd (cc)
matched_right None (Some p) o both at = absurd both
matched_right (Some s) None o both at = absurd both
matched_right (Some s) (Some p) o both at = record { source = s; is = refl; alike = subst (λ (x : Source). IsAlike s x) (is p o at) both }
  where
    is : (x y : Source) → Some x ≡ Some y → x ≡ y
    is x y e = cc

matched_left : (one : Option Source) (other : Option Source) (s : Source) → AreBothAlike one other → one ≡ Some s → IsMatched other (λ o. IsAlike s o)
matched_left None None s both at = absurd (cc)
matched_left None (Some p) s both at = absurd both
matched_left (Some q) None s both at = absurd both
matched_left (Some q) (Some p) s both at = record { source = p; is = refl; alike = subst (λ (x : Source). IsAlike x p) (is q s at) both }
  where
    is : (x y : Source) → Some x ≡ Some y → x ≡ y
    is x y e = cc

got_alike : (ones others : List Source) → AreAlike ones others → (place : ℕ) → AreBothAlike (slice_get ones place) (slice_get others place)
got_alike [] [] all place = tt
got_alike [] (o ∷ os) all place = absurd all
got_alike (s ∷ ss) [] all place = absurd all
got_alike (s ∷ ss) (o ∷ os) all zero = all.0
got_alike (s ∷ ss) (o ∷ os) all (suc place) = got_alike ss os all.1 place

with_both : (one other : Option Source) (ss os : List Source) → AreBothAlike one other → AreAlike ss os → AreAlike (option_to_list one ++ ss) (option_to_list other ++ os)
with_both None None ss os both all = all
with_both None (Some o) ss os both all = absurd both
with_both (Some s) None ss os both all = absurd both
with_both (Some s) (Some o) ss os both all = (both, all)

at_alike : (ones others : List Source) → AreAlike ones others → (places : List ℕ) → AreAlike (sources_at ones places) (sources_at others places)
at_alike ones others all [] = tt
at_alike ones others all (place ∷ places) =
    with_both (slice_get ones place) (slice_get others place) (sources_at ones places) (sources_at others places) (got_alike ones others all place) (at_alike ones others all places)

-- ---- all sources

all_uses_alike : (ones others : List Source) → AreAlike ones others → all_uses ones ≡ all_uses others
all_uses_alike [] [] all = refl
all_uses_alike [] (o ∷ os) all = absurd all
all_uses_alike (s ∷ ss) [] all = absurd all
all_uses_alike (s ∷ ss) (o ∷ os) all =
    ap (λ (u : UsesOf). u ∷ all_uses ss) (uses_in_alike s o all.0) ∙ ap (λ (us : List UsesOf). uses_in o ∷ us) (all_uses_alike ss os all.1)

is_used_alike : (ones others : List Source) → AreAlike ones others → (name : List ℕ) → is_used ones name ≡ is_used others name
is_used_alike [] [] all name = refl
is_used_alike [] (o ∷ os) all name = absurd all
is_used_alike (s ∷ ss) [] all name = absurd all
is_used_alike (s ∷ ss) (o ∷ os) all name =
    let same = use_alike s o all.0 in
    ap (λ (u : List Identifier). list_any (λ unit. same_bytes name unit.name) u || is_used ss name) same.all
    ∙ ap (λ (b : Bool). uses_named name o || b) (is_used_alike ss os all.1 name)

units_alike : (have : List Interface) (ss os : List Source) (units : List TypedUnit) → AreAlike ss os → AllZip (IsUnitOf have) ss units → AllZip (IsUnitOf have) os units
units_alike have [] [] units all typed = typed
units_alike have [] (o ∷ os) units all typed = absurd all
units_alike have (s ∷ ss) [] units all typed = absurd all
units_alike have (s ∷ ss) (o ∷ os) [] all typed = absurd typed
units_alike have (s ∷ ss) (o ∷ os) (unit ∷ units) all typed = (unit_alike s o all.0 have unit typed.0, units_alike have ss os units all.1 typed.1)

module _ (ones others : List Source) (all : AreAlike ones others) where
  acyclic_alike : IsAcyclic ones → IsAcyclic others
  acyclic_alike acyclic = subst (λ (u : List UsesOf). (place : ℕ) → IsOnCircle (interface_edges u) place → ⊥) (all_uses_alike ones others all) acyclic

  kind_at : (place : ℕ) (s o : Source) → IsAlike s o → is_of_kind ones place s ≡ is_of_kind others place o
  kind_at place s o a =
      ap (λ (n : List ℕ). not (is_reserved n) && cond (nat_eq place 0) (is_program s.tree && not (is_used ones n)) (not (is_program s.tree))) a.name
      ∙ (ap (λ (b : Bool). not (is_reserved o.name) && cond (nat_eq place 0) (is_program s.tree && not b) (not (is_program s.tree))) (is_used_alike ones others all o.name)
      ∙ ap (λ (p : Bool). not (is_reserved o.name) && cond (nat_eq place 0) (p && not (is_used others o.name)) (not p)) (kind_alike s.tree o.tree a.tree))

  kinds_alike : AreOfKinds ones → AreOfKinds others
  kinds_alike kinds place o at =
      let m = matched_right (slice_get ones place) (slice_get others place) o (got_alike ones others all place) at in
      sym (kind_at place m.source o m.alike) ∙ kinds place m.source m.is

  shown_alike : (have : List Interface) (i : Interface) → IsShownIn ones have i → IsShownIn others have i
  shown_alike have i h =
      let s = h.source in
      let place = h.one.0 in
      let m = matched_left (slice_get ones place) (slice_get others place) s (got_alike ones others all place) (stands ones s h.one) in
      let o = m.source in
      record {
        source = o;
        one = (place, slice_get_within others place o m.is, get_or_from_slice_get others place o o m.is);
        named = h.named ∙ m.alike.name;
        there = subst (λ (u : List Identifier). AreThere have u) (outer_alike s o m.alike) h.there;
        fits = fits_alike s o m.alike have h.fits;
        shows = shown_as_alike s o m.alike have i h.shows;
      }

  done_alike : (have : List Interface) (place : ℕ) → IsDone ones have place → IsDone others have place
  done_alike have place done o at =
      let m = matched_right (slice_get ones place) (slice_get others place) o (got_alike ones others all place) at in
      subst (λ (n : List ℕ). is_shown have n ≡ true) m.alike.name (done m.source m.is)

  interfaces_alike : (have : List Interface) → AreInterfaces ones have → AreInterfaces others have
  interfaces_alike have h = record {
    shown = All-weaker (IsShownIn ones have) (IsShownIn others have) (λ i. shown_alike have i) have h.shown;
    all = λ place. done_alike have place (h.all place);
  }

  in_order_alike : AreAlike (in_order ones) (in_order others)
  in_order_alike =
      subst (λ (u : List UsesOf). AreAlike (in_order ones) (sources_at others (start_order u 0))) (all_uses_alike ones others all)
      (at_alike ones others all (start_order (all_uses ones) 0))

  pub program_alike : (program : Program) → IsProgram ones program → IsProgram others program
  program_alike program is = record {
    units = record {
      acyclic = acyclic_alike is.units.acyclic;
      kinds = kinds_alike is.units.kinds;
      have = is.units.have;
      interfaces = interfaces_alike is.units.have is.units.interfaces;
      typed = units_alike is.units.have (in_order ones) (in_order others) program.units in_order_alike is.units.typed;
    };
    lawful = is.lawful;
    few = is.few;
    last = is.last;
  }

-- Each unit of a program is found by its name.
use Rattle.std.proofs.Common.{◌≡◌, ◌∙◌, ℕ, zero, suc, Bool, true, false, cond, nat_eq, List, [], ◌∷◌, ◌++◌, length, Option, Some, None, refl, sym, ap, subst}
use Rattle.std.specs.Prelude.{slice_get}
use Rattle.std.specs.Cmp.Lexicographic.{same_text}
use Rattle.std.specs.Option.{option_to_list}
use Rattle.std.specs.List.{AllZip, list_any}
use Rattle.std.proofs.lemmas.Option.{same_Some, slice_get-get_or}
use Rattle.unit_references.specs.type_layout.Words.{same_bytes}
use Rattle.interfaces_consistent.specs.source_graph.declared.sources.Source.{Source}
use Rattle.interfaces_consistent.specs.source_graph.Whole.{AreNew}
use Rattle.unit_references.specs.typed_tree.declared.units.Unit as typed
use Rattle.unit_references.specs.tp_meaning.Programs.{unit_in}
use Rattle.units_well_formed.specs.unit_interface.declared.interfaces.Interface.{Interface}
use Rattle.units_well_formed.specs.unit_interface.Order.{no_progress, repeats, start_order}
use Rattle.units_well_formed.specs.unit_interface.Uses.{all_edges}
use Rattle.units_well_formed.proofs.unit_interface_proofs.KeyLaws.{same_itself}
use Rattle.units_well_formed.proofs.unit_interface_proofs.OrderLaws.{both_false, contrary, visit_after}
use Rattle.interfaces_consistent.specs.source_graph.source_order.Orders.{all_uses}
use Rattle.interfaces_consistent.specs.front_end.source_interfaces.Scopes.{outer_scope}
use Rattle.units_well_formed.specs.tp_check_decl.Units.{view_unit}
use Rattle.interfaces_consistent.specs.front_end.Typed.{sources_at, IsUnitOf}
use Rattle.interfaces_consistent.specs.interface_soundness.programs.Closing.{AreInOrder}
use Rattle.interfaces_consistent.proofs.interface_soundness_proofs.programs.Sources.{first_alone}
use Rattle.interfaces_consistent.proofs.interface_soundness_proofs.programs.Closing.{new_of}
use Rattle.shared_types_agree.specs.programs.Laws.{ListedLaw}
use Rattle.shared_types_agree.proofs.programs.Units.{typed_name}
use Rattle.shared_types_agree.proofs.programs.Whole.{typed_at}

some_is : (one other : Source) → Some one ≡ Some other → one ≡ other
some_is one other same = cc

-- sources of one name stand at one place
one_place : (met : List (List ℕ)) (sources : List Source) → AreNew met sources → (p q : ℕ) (s t : Source) → slice_get sources p ≡ Some s → slice_get sources q ≡ Some t → s.name ≡ t.name → p ≡ q
one_place met [] new p q s t a b named = absurd (cc)
one_place met (one ∷ rest) new zero zero s t a b named = refl
one_place met (one ∷ rest) new zero (suc q) s t a b named = absurd (first_alone met one rest new.1 q t b (sym named ∙ ap (λ (x : Source). x.name) (sym (some_is one s a))))
one_place met (one ∷ rest) new (suc p) zero s t a b named = absurd (first_alone met one rest new.1 p s a (named ∙ ap (λ (x : Source). x.name) (sym (some_is one t b))))
one_place met (one ∷ rest) new (suc p) (suc q) s t a b named = ap suc (one_place (met ++ one.name ∷ []) rest new.1 p q s t a b named)

module _ (sources : List Source) (have : List Interface) (new : AreNew [] sources) where
  abbrev Are : List ℕ → List typed.Unit → Type 0
  Are places units = AllZip (IsUnitOf have) (sources_at sources places) units

  named : (s : Source) (unit : typed.Unit) → IsUnitOf have s unit → unit.name ≡ s.name
  named s unit is = typed_name s.name s.says (outer_scope have s) have s.tree (view_unit unit) is.typed

  -- a unit whose source stands further on has another name
  other_name : (p : ℕ) (places : List ℕ) (s : Source) (u unit : typed.Unit) (us : List typed.Unit) (number : ℕ) → slice_get sources p ≡ Some s → IsUnitOf have s u → Are places us → slice_get us number ≡ Some unit
      → list_any (nat_eq p) places ≡ false → same_bytes unit.name u.name ≡ false
  other_name p places s u unit us number there is zip at once = by (same_bytes unit.name u.name) refl
    where
      by : (b : Bool) → same_bytes unit.name u.name ≡ b → b ≡ false
      by true e =
          let t = typed_at sources have places us number unit zip at in
          let names : t.source.name ≡ s.name = sym (named t.source unit t.is) ∙ same_text unit.name u.name (sym e) ∙ named s u is in
          let spot : t.place ≡ p = one_place [] sources new t.place p t.source s t.at there names in
          contrary (list_any (nat_eq p) places) (subst (λ (k : ℕ). list_any (nat_eq k) places ≡ true) spot t.among) once
      by false e = refl

  found_head : (p : ℕ) (places : List ℕ) (found : Option Source) (units : List typed.Unit) (number : ℕ) (unit : typed.Unit) → slice_get sources p ≡ found
      → AllZip (IsUnitOf have) (option_to_list found ++ sources_at sources places) units → slice_get units number ≡ Some unit → list_any (nat_eq p) places ≡ false
      → ((us : List typed.Unit) (n : ℕ) → Are places us → slice_get us n ≡ Some unit → unit_in us unit.name ≡ Some unit) → unit_in units unit.name ≡ Some unit
  found_head p places None units number unit is zip at once more = more units number zip at
  found_head p places (Some s) [] number unit is zip at once more = absurd zip
  found_head p places (Some s) (u ∷ us) zero unit is zip at once more =
      ap (λ (b : Bool). (let o : Option typed.Unit = cond b (Some u) (unit_in us unit.name) in o))
      (ap (λ (x : typed.Unit). same_bytes unit.name x.name) (same_Some u unit at) ∙ same_itself unit.name)
      ∙ at
  found_head p places (Some s) (u ∷ us) (suc number) unit is zip at once more =
      ap (λ (b : Bool). (let o : Option typed.Unit = cond b (Some u) (unit_in us unit.name) in o)) (other_name p places s u unit us number is zip.0 zip.1 at once)
      ∙ more us number zip.1 at

  found_at : (places : List ℕ) (units : List typed.Unit) (number : ℕ) (unit : typed.Unit) → Are places units → slice_get units number ≡ Some unit → repeats places ≡ false → unit_in units unit.name ≡ Some unit
  found_at [] [] number unit zip at once = absurd (cc)
  found_at [] (u ∷ us) number unit zip at once = absurd zip
  found_at (p ∷ places) units number unit zip at once =
      let both = both_false (list_any (nat_eq p) places) (repeats places) once in
      found_head p places (slice_get sources p) units number unit refl zip at both.0 (λ us n z e. found_at places us n unit z e both.1)

pub all_listed : ListedLaw
all_listed held name texts sources gathers program is =
    let u = is.units in
    let o : AreInOrder sources u.have = record { held = held; name = name; texts = texts; gathers = gathers; acyclic = u.acyclic; shown = u.interfaces.shown } in
    let v = visit_after (all_edges (all_uses sources)) (length (all_uses sources)) no_progress 0 in
    λ number unit low.
    found_at sources u.have (new_of sources u.have o) (start_order (all_uses sources) 0) program.units number _ u.typed (slice_get-get_or program.units number unit low) (ap repeats v.is ∙ v.once)

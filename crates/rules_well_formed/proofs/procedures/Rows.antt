-- Each row of the standard procedures is one of trees.
use Rattle.std.proofs.Common.{◌≡◌, ℕ, ◌==◌, ◌&&◌, Bool, true, false, cond, List, [], ◌∷◌, map, length, Option, Some, None, refl, sym, subst}
use Rattle.std.proofs.lemmas.Bool.{and_parts}
use Rattle.std.proofs.lemmas.Bool.Decides.{Decides-eqb}
use Rattle.well_formed.specs.type_layout.declared.texts.Place.{Place}
use Rattle.well_formed.specs.typed_tree.Expressions.{Expression, Std}
use Rattle.well_formed.specs.Scopes.{Scope}
use Rattle.well_formed.specs.Typed.{IsTyped}
use Rattle.well_formed.specs.typed_tree.type_fits.Standard.{Nothing, IsStandard, inc, inc_by, dec, dec_by, delete, insert, number, new, dispose}
use Rattle.call_rules.specs.Given.{arguments_of}
use Rattle.call_rules.specs.declared.procedure_rules.rows.Slot.{Slot}
use Rattle.call_rules.specs.declared.procedure_rules.rows.Slots.{Slots}
use Rattle.call_rules.specs.procedure_rules.Rows.{rows, listed, count_of, slots_in, slots_of}
use Rattle.call_rules.specs.procedure_rules.Procedures.{performed_by, standard_performed}
use Rattle.rules_well_formed.specs.nodes.Tables.{IsSound}
use Rattle.rules_well_formed.specs.calls.Laws.{AreOperands}
use Rattle.rules_well_formed.proofs.procedures.Slots.{slot_of, slots_filled}

-- what trees have under a number
abbrev IsRight : ℕ → Slots → Type 0
IsRight n slots = IsStandard n (map (λ (one : Slot). slot_of one) (listed slots)) Nothing

abbrev AreRight : List (ℕ × Slots) → Type 0
AreRight [] = Unit {0}
AreRight (row ∷ all) = IsRight row.0 row.1 × AreRight all

all_right : AreRight rows
unfolding rows
all_right = (inc, (inc_by, (dec, (dec_by, (delete, (insert, (number, (new, (dispose, tt)))))))))

row_here : (row : ℕ × Slots) (all : List (ℕ × Slots)) (n count : ℕ) (slots : Slots) → AreRight (row ∷ all) → (slots_in all n count ≡ Some slots → IsRight n slots) → (b : Bool)
    → (row.0 == n && count_of row.1 == count) ≡ b → cond b (Some row.1) (slots_in all n count) ≡ Some slots → IsRight n slots
row_here row all n count slots right rec true is e =
    let p = and_parts (row.0 == n) (count_of row.1 == count) is in
    let same : row.0 ≡ n = (Decides-eqb row.0 n).0 p.0 in
    let of : row.1 ≡ slots = cc in
    subst (λ (x : Slots). IsRight n x) of (subst (λ (m : ℕ). IsRight m row.1) same right.0)
row_here row all n count slots right rec false is e = rec e

row_right : (all : List (ℕ × Slots)) (n count : ℕ) (slots : Slots) → AreRight all → slots_in all n count ≡ Some slots → IsRight n slots
row_right [] n count slots right e = let bad : ⊥ = cc in absurd bad
row_right (row ∷ all) n count slots right e =
    row_here row all n count slots right (λ k. row_right all n count slots right.1 k) (row.0 == n && count_of row.1 == count) refl e

module _ (s : Scope) (sound : IsSound s.types) where
  by_row : (place : Place) (n : ℕ) (o : Option Slots) (es : List Expression) (e : Expression) → slots_of n (length es) ≡ o → AreOperands s es → (performed_by s.types place n o es).holds e → IsTyped s e
  by_row place n None es e is oes h = absurd h
  by_row place n (Some slots) es e is oes h =
      let filled = slots_filled s sound place (listed slots) es h.part oes h.holds in
      subst (λ (x : Expression). IsTyped s x) (sym h.made)
      (tt, (map (λ (one : Slot). slot_of one) (listed slots), Nothing, row_right rows n (length es) slots all_right is, filled, tt))

  pub performed_typed : (place : Place) (n : ℕ) (es : List Expression) (e : Expression) → AreOperands s es → (standard_performed s.types place n es).holds e → IsTyped s e
  unfolding standard_performed
  performed_typed place n es e oes h = by_row place n (slots_of n (length es)) es e refl oes h

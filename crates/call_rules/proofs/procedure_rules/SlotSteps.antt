-- The loop over what is asked of arguments: what was made and what is left make the whole.
use Rattle.std.proofs.Common.{◌≡◌, ℕ, zero, suc, ◌+◌, ◌<◌, List, [], ◌∷◌, ◌++◌, drop, length, get_or, Result, Ok, Err, arith, ap, refl, sym, ◌∙◌}
use Rattle.std.proofs.lemmas.List.{drop_more}
use Rattle.type_layout.specs.declared.definitions.TypeDef.{TypeDef}
use Rattle.type_layout.specs.declared.texts.Place.{Place}
use Rattle.typed_tree.specs.Expressions.{Expression}
use Rattle.typing_rules.specs.declared.faults.Fault.{Fault}
use Rattle.typing_rules.specs.declared.faults.Rule.TheVariants as rules
use Rattle.typing_rules.specs.Faults.{broken}
use Rattle.call_rules.specs.Lists.{behind}
use Rattle.call_rules.specs.Given.{Handed}
use Rattle.call_rules.proofs.ListLaws.{step}
use Rattle.call_rules.specs.declared.procedure_rules.rows.Slot.{Slot}
use Rattle.call_rules.specs.procedure_rules.Procedures.{taken, by_slots}

module _ (types : List TypeDef) (place : Place) where
  missing_at : (slots : List Slot) (i : ℕ) → i < length slots → (by_slots types place (drop i slots) []).run ≡ Err (broken place rules.Called)
  missing_at [] i h = absurd (omega (arith, h))
  missing_at (one ∷ slots) zero h = refl
  missing_at (one ∷ slots) (suc i) h = missing_at slots i (omega (arith, h))

  -- an argument is missing
  pub missing : (slots : List Slot) (i : ℕ) (before : List Handed) (es : List Expression) (whole : Result (List Handed) Fault) → i < length slots → es ≡ []
      → behind before (by_slots types place (drop i slots) es).run ≡ whole → whole ≡ Err (broken place rules.Called)
  missing slots i before es whole h e goes =
      let n : (by_slots types place (drop i slots) es).run ≡ Err (broken place rules.Called) = rw e (missing_at slots i h) in
      sym goes ∙ ap (behind before) n

  -- an argument is taken
  pub another : (slots : List Slot) (i : ℕ) (d : Slot) (before after : List Handed) (e : Expression) (all es : List Expression) (one : Handed) (whole : Result (List Handed) Fault)
      → i < length slots → (taken types place (get_or slots i d) e).run ≡ Ok one → all ≡ e ∷ es → after ≡ before ++ (one ∷ [])
      → behind before (by_slots types place (drop i slots) all).run ≡ whole → behind after (by_slots types place (drop (i + 1) slots) es).run ≡ whole
  another slots i d before after e all es one whole h t a m goes =
      let n : behind before (by_slots types place (drop i slots) all).run ≡ behind (before ++ (one ∷ [])) (by_slots types place (drop (i + 1) slots) es).run =
      rw (drop_more slots i d h, a) (step before (taken types place (get_or slots i d) e).run one (by_slots types place (drop (i + 1) slots) es).run t) in
      rw m (sym n ∙ goes)

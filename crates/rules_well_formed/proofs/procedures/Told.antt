-- Str is typed.
use Rattle.std.proofs.Common.{◌≡◌, ℕ, List, [], ◌∷◌, ◌++◌, Option, Some, None, refl, sym, subst}
use Rattle.well_formed.specs.type_layout.declared.texts.Place.{Place}
use Rattle.well_formed.specs.typed_tree.Expressions.{Expression, Std}
use Rattle.well_formed.specs.typed_tree.Statements.{Written}
use Rattle.well_formed.specs.typed_tree.Standard as routine
use Rattle.well_formed.specs.Scopes.{Scope}
use Rattle.well_formed.specs.Typed.{IsTyped}
use Rattle.well_formed.specs.typed_tree.type_fits.Standard.{Integer, TextVariable, Nothing, text, text_in}
use Rattle.call_rules.specs.Given.{Handed, arguments_of}
use Rattle.call_rules.specs.declared.standard_rules.signatures.Want.TheVariants as want
use Rattle.call_rules.specs.declared.procedure_rules.rows.Slot.TheVariants as slot
use Rattle.call_rules.specs.procedure_rules.Procedures.{told_number, told_into, told_by, told}
use Rattle.rules_well_formed.specs.nodes.Tables.{IsSound}
use Rattle.rules_well_formed.specs.nodes.Laws.{IsOperand}
use Rattle.rules_well_formed.specs.procedures.Laws.{IsWidthOperand, HasOperands}
use Rattle.rules_well_formed.proofs.procedures.Slots.{IsFilled, fill_onto, variable_filled, taken_filled}

module _ (s : Scope) (sound : IsSound s.types) (place : Place) where
  abbrev IsStr : List Handed → Handed → Type 0
  IsStr xs to = IsTyped s (Std None routine.str (arguments_of (xs ++ to ∷ [])))

  alone : (x to : Handed) → IsFilled s Integer x → IsFilled s TextVariable to → IsStr (x ∷ []) to
  alone x to h k =
      let last = fill_onto s TextVariable [] to (arguments_of []) k tt in
      (tt, (Integer ∷ TextVariable ∷ [], Nothing, text, fill_onto s Integer (TextVariable ∷ []) x (arguments_of (to ∷ [])) h last, tt))

  within : (x w to : Handed) → IsFilled s Integer x → IsFilled s Integer w → IsFilled s TextVariable to → IsStr (x ∷ w ∷ []) to
  within x w to h i k =
      let last = fill_onto s TextVariable [] to (arguments_of []) k tt in
      let rest = fill_onto s Integer (TextVariable ∷ []) w (arguments_of (to ∷ [])) i last in
      (tt, (Integer ∷ Integer ∷ TextVariable ∷ [], Nothing, text_in, fill_onto s Integer (Integer ∷ TextVariable ∷ []) x (arguments_of (w ∷ to ∷ [])) h rest, tt))

  number_told : (e : Expression) (width : Option Expression) (xs : List Handed) (to : Handed) → IsOperand s e → IsWidthOperand s width → IsFilled s TextVariable to
      → (told_number s.types place e width).holds xs → IsStr xs to
  number_told e None xs to oe ow k h =
      let x = taken_filled s sound place (slot.Value want.Integer) e h.part oe h.holds in
      subst (λ (y : List Handed). IsStr y to) (sym h.made) (alone h.part to x k)
  number_told e (Some width) xs to oe ow k h =
      let x = taken_filled s sound place (slot.Value want.Integer) e h.left oe h.left_holds in
      let w = taken_filled s sound place (slot.Value want.Integer) width h.right ow h.right_holds in
      subst (λ (y : List Handed). IsStr y to) (sym h.made) (within h.left h.right to x w k)

  into_typed : (e : Expression) (width : Option Expression) (to r : Expression) → IsOperand s e → IsWidthOperand s width → IsOperand s to → (told_into s.types place e width to).holds r → IsTyped s r
  into_typed e width to r oe ow ot h =
      let line = variable_filled s sound place slot.Line to h.right ot h.right_holds in
      subst (λ (x : Expression). IsTyped s x) (sym h.made) (number_told e width h.left h.right oe ow line h.left_holds)

  told_at : (one : Written) (to : Expression) (width : Option Expression) (r : Expression) → HasOperands s one → IsOperand s to → (told_by s.types place one to width).holds r → IsTyped s r
  told_at one to None r ho ot h = into_typed one.value one.width to r ho.value ho.width ot h
  told_at one to (Some width) r ho ot h = absurd h

  pub told_typed : (one to : Written) (r : Expression) → HasOperands s one → HasOperands s to → (told s.types place one to).holds r → IsTyped s r
  unfolding told
  told_typed one to r ho ht h = told_at one to.value to.width r ho ht.value h

-- The judgement of standard functions is lawful.
use Rattle.std.proofs.Common.{ℕ, List, [], ◌∷◌, Option, Some, None, map, Decides}
use Rattle.std.proofs.lemmas.Bool.Decides.{Decides-and, Decides-not, Decides-eqb}
use Rattle.type_layout.specs.declared.definitions.TypeDef.{TypeDef}
use Rattle.type_layout.specs.declared.texts.Place.{Place}
use Rattle.typed_tree.specs.Expressions.{Expression, Const, RoutineValue, Load, Unary, Binary, Convert, Range, SetOf, Call, CallVirtual, CallThrough, Std, Make}
use Rattle.typing_rules.specs.declared.faults.Rule.TheVariants as rules
use Rattle.typing_rules.specs.declared.sorts.Sort.{Sort}
use Rattle.typing_rules.specs.declared.sorts.Sort.TheVariants as sort
use Rattle.typing_rules.specs.Faults.{broken}
use Rattle.typing_rules.specs.Sorts.{holding_type, long_int, sort_of}
use Rattle.typing_rules.specs.Laws.{Lawful}
use Rattle.typing_rules.proofs.JudgementLaws.{lawful_makes, lawful_refuses, lawful_rule}
use Rattle.typing_rules.proofs.PlanLaws.{yes, no, tells_integer, tells_text}
use Rattle.call_rules.proofs.CallLaws.{tells_ordinal}
use Rattle.call_rules.specs.declared.standard_rules.signatures.Want.{Want}
use Rattle.call_rules.specs.declared.standard_rules.signatures.Want.TheVariants.{Integer, Short, Ordinal, Char, Text}
use Rattle.call_rules.specs.declared.standard_rules.signatures.Shape.{Shape}
use Rattle.call_rules.specs.declared.standard_rules.signatures.Shape.TheVariants.{Nothing, One, Pair, Triple, Texts}
use Rattle.call_rules.specs.declared.standard_rules.signatures.Signature.{Signature}
use Rattle.call_rules.specs.standard_rules.Signatures.{signature_of}
use Rattle.call_rules.specs.standard_rules.Standard.{IsShort, is_short, IsChar, is_char, Fits, fits, AreTexts, are_texts, Accepts, accepts, takes_text, handed, result_type, by_signature, standard}
use Rattle.call_rules.specs.Given.{arguments_of}
use Rattle.call_rules.specs.standard_rules.Sizes.{variable_sized}

tells_short : (s : Sort) → Decides (is_short s) (IsShort s)
tells_short (sort.Integer r) = Decides-not _ (Decides-eqb (holding_type r).0 long_int.0)
tells_short sort.Boolean = no
tells_short sort.Char = no
tells_short (sort.Enumeration ty) = no
tells_short sort.Text = no
tells_short (sort.Set base) = no
tells_short sort.Pointer = no
tells_short sort.Nil = no
tells_short sort.Other = no

tells_char : (s : Sort) → Decides (is_char s) (IsChar s)
tells_char (sort.Integer r) = no
tells_char sort.Boolean = no
tells_char sort.Char = yes
tells_char (sort.Enumeration ty) = no
tells_char sort.Text = no
tells_char (sort.Set base) = no
tells_char sort.Pointer = no
tells_char sort.Nil = no
tells_char sort.Other = no

pub tells_fits : (want : Want) (s : Sort) → Decides (fits want s) (Fits want s)
tells_fits Integer s = tells_integer s
tells_fits Short s = tells_short s
tells_fits Ordinal s = tells_ordinal s
tells_fits Char s = tells_char s
tells_fits Text s = tells_text s

tells_texts : (sorts : List Sort) → Decides (are_texts sorts) (AreTexts sorts)
tells_texts [] = yes
tells_texts (s ∷ sorts) = Decides-and _ _ (tells_text s) (tells_texts sorts)

pub tells_accepted : (shape : Shape) (sorts : List Sort) → Decides (accepts shape sorts) (Accepts shape sorts)
tells_accepted Nothing [] = yes
tells_accepted Nothing (s ∷ sorts) = no
tells_accepted (One a) [] = no
tells_accepted (One a) (s ∷ []) = tells_fits a s
tells_accepted (One a) (s ∷ (t ∷ sorts)) = no
tells_accepted (Pair a b) [] = no
tells_accepted (Pair a b) (s ∷ []) = no
tells_accepted (Pair a b) (s ∷ (t ∷ [])) = Decides-and _ _ (tells_fits a s) (tells_fits b t)
tells_accepted (Pair a b) (s ∷ (t ∷ (u ∷ sorts))) = no
tells_accepted (Triple a b c) [] = no
tells_accepted (Triple a b c) (s ∷ []) = no
tells_accepted (Triple a b c) (s ∷ (t ∷ [])) = no
tells_accepted (Triple a b c) (s ∷ (t ∷ (u ∷ []))) = Decides-and _ _ (tells_fits a s) (Decides-and _ _ (tells_fits b t) (tells_fits c u))
tells_accepted (Triple a b c) (s ∷ (t ∷ (u ∷ (v ∷ sorts)))) = no
tells_accepted Texts [] = no
tells_accepted Texts (s ∷ sorts) = tells_texts (s ∷ sorts)

module _ (types : List TypeDef) (place : Place) (number : ℕ) where
  lawful_signature : (one : Option Signature) (es : List Expression) → Lawful (by_signature types place number one es)
  lawful_signature None es = lawful_refuses _
  lawful_signature (Some one) es =
      let sorts = map (sort_of types) es in
      let made = Std (Some (result_type types one.outcome es)) number (arguments_of (map (handed types (takes_text one.shape)) es)) in
      lawful_rule (broken place rules.Called) (accepts one.shape sorts) (Accepts one.shape sorts) made (tells_accepted one.shape sorts)

  pub lawful_standard : (es : List Expression) → Lawful (standard types place number es)
  unfolding standard
  lawful_standard es = lawful_signature (signature_of number) es

module _ (types : List TypeDef) (place : Place) where
  pub lawful_sized : (e : Expression) → Lawful (variable_sized types place e)
  unfolding variable_sized
  lawful_sized (Load ty at) = lawful_makes _
  lawful_sized (Const ty v) = lawful_refuses _
  lawful_sized (RoutineValue ty routine) = lawful_refuses _
  lawful_sized (Unary ty op operand) = lawful_refuses _
  lawful_sized (Binary ty op left right early) = lawful_refuses _
  lawful_sized (Convert ty operand) = lawful_refuses _
  lawful_sized (Range ty operand low high) = lawful_refuses _
  lawful_sized (SetOf ty listed) = lawful_refuses _
  lawful_sized (Call ty routine own args) = lawful_refuses _
  lawful_sized (CallVirtual ty own number checked args) = lawful_refuses _
  lawful_sized (CallThrough ty through args) = lawful_refuses _
  lawful_sized (Std ty number args) = lawful_refuses _
  lawful_sized (Make ty routine args) = lawful_refuses _

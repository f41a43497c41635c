-- Calls of standard functions are typed, row by row.
use Rattle.std.proofs.Common.{◌≡◌, ℕ, ◌==◌, Bool, true, false, cond, All, List, [], ◌∷◌, map, Option, Some, None, refl, sym, subst, ◌∙◌}
use Rattle.std.specs.Option.{option_and_then}
use Rattle.std.proofs.lemmas.Bool.Decides.{Decides-eqb}
use Rattle.std.proofs.lemmas.List.Elements.{All-nil, All-cons}
use Rattle.well_formed.specs.type_layout.declared.definitions.TypeId.{TypeId}
use Rattle.well_formed.specs.type_layout.declared.definitions.Host.{Host}
use Rattle.well_formed.specs.type_layout.declared.definitions.Host.TheVariants as host
use Rattle.well_formed.specs.type_layout.declared.definitions.TypeDef.{TypeDef}
use Rattle.well_formed.specs.type_layout.declared.texts.Place.{Place}
use Rattle.well_formed.specs.typed_tree.Expressions.{Expression, Arguments, NoArguments, ByValue, Std, type_of}
use Rattle.well_formed.specs.typed_tree.Standard as routine
use Rattle.well_formed.specs.typed_tree.type_fits.Fits.{definition, stored_as, IsSome, IsString, IsWide, AreStoredAlike}
use Rattle.well_formed.specs.Scopes.{Scope}
use Rattle.well_formed.specs.Typed.{IsTyped, FillEach}
use Rattle.well_formed.specs.typed_tree.type_fits.Standard.{Slot, Integer, Ordinal, Char, Text, Outcome, Wide, Holding, Alike, Truth, Letter, Byte, Small, Line, Gives, IsText, IsStandard, abs, sqr, odd, ord, chr, succ, pred, hi, lo, swap, up_case, length_of, copy, concat, position, end_of_file, end_of_line}
use Rattle.call_rules.specs.scopes.Predeclared.{type_id}
use Rattle.call_rules.specs.typing_rules.Sorts as sorts
use Rattle.call_rules.specs.typing_rules.Sorts.{integer, char, boolean, string}
use Rattle.call_rules.specs.typing_rules.Wanted.{predefined, stored_of_type}
use Rattle.call_rules.specs.Given.{arguments_of}
use Rattle.call_rules.specs.declared.standard_rules.signatures.Want.{Want}
use Rattle.call_rules.specs.declared.standard_rules.signatures.Want.TheVariants as want
use Rattle.call_rules.specs.declared.standard_rules.signatures.Shape.{Shape}
use Rattle.call_rules.specs.declared.standard_rules.signatures.Shape.TheVariants as shape
use Rattle.call_rules.specs.declared.standard_rules.signatures.Outcome.{Outcome as Result}
use Rattle.call_rules.specs.declared.standard_rules.signatures.Outcome.TheVariants as result
use Rattle.call_rules.specs.declared.standard_rules.signatures.Signature.{Signature}
use Rattle.call_rules.specs.standard_rules.Signatures.{signatures, signature_in, signature_of}
use Rattle.call_rules.specs.standard_rules.Standard.{Fits, Accepts, AreTexts, takes_text, handed, held_type, stored_type, result_type, by_signature, standard}
use Rattle.rules_well_formed.specs.nodes.Tables.{IsInTable, IsSound}
use Rattle.rules_well_formed.specs.nodes.Laws.{IsOperand}
use Rattle.rules_well_formed.proofs.nodes.Ordinals.{IsStoredAs, IsWideType, stored_byte, stored_integer, stored_char, stored_boolean, predefined_stored}
use Rattle.rules_well_formed.proofs.nodes.Wanting.{some_of, string_type}
use Rattle.rules_well_formed.proofs.nodes.Indexed.{type_some}
use Rattle.rules_well_formed.specs.calls.Laws.{AreOperands}
use Rattle.rules_well_formed.proofs.standard.Arguments.{integer_given, short_given, ordinal_given, char_given, text_taken, integer_taken}
use Rattle.rules_well_formed.proofs.standard.Held.{value_held, held_wide}

module _ (s : Scope) (sound : IsSound s.types) where
  -- what a row of the table says of its calls
  abbrev pub IsRight : (ℕ × Shape × Result) → Type 0
  IsRight row = (es : List Expression) → AreOperands s es → Accepts row.1 (map (sorts.sort_of s.types) es)
      → IsTyped s (Std (Some (result_type s.types row.2 es)) row.0 (arguments_of (map (handed s.types (takes_text row.1)) es)))

  one_argument : (w : Want) (P : List Expression → Type 0) → ((e : Expression) → IsOperand s e → Fits w (sorts.sort_of s.types e) → P (e ∷ []))
      → (es : List Expression) → AreOperands s es → Accepts (shape.One w) (map (sorts.sort_of s.types) es) → P es
  one_argument w P f [] oes k = absurd k
  one_argument w P f (e ∷ []) oes k = f e oes.0 k
  one_argument w P f (e ∷ (d ∷ es)) oes k = absurd k

  wide_in : (ty : TypeId) → IsWideType s.types ty → IsInTable s.types ty × IsWide (stored_as (definition s.types ty))
  wide_in ty w = (type_some (definition s.types ty) w.0 w.1, subst (λ (o : Option Host). IsWide o) (sym w.1) w.2)

  stored_in : (ty : TypeId) (w : Host) → IsStoredAs s.types ty w → IsInTable s.types ty
  stored_in ty w h = type_some (definition s.types ty) w h

  string_in : (one : Option TypeDef) → IsString one → IsSome one
  string_in (Some one) h = tt
  string_in None h = absurd h

  -- ---- functions of one argument

  of_integer : (number : ℕ) → IsStandard number (Integer ∷ []) Wide → IsRight (number, shape.One want.Integer, result.Held)
  of_integer number rule es oes k = one_argument want.Integer (λ es. IsTyped s (Std (Some (result_type s.types result.Held es)) number (arguments_of (map (handed s.types false) es))))
      (λ e oe f.
      let t = integer_given s e oe f in
      let w = wide_in (held_type (sorts.sort_of s.types e)) (held_wide s sound (sorts.sort_of s.types e)) in
      (w.0, (Integer ∷ [], Wide, rule, (t.0, t.1, tt), w.1)))
      es oes k

  of_short : IsRight (routine.swap, shape.One want.Short, result.Held)
  of_short es oes k = one_argument want.Short (λ es. IsTyped s (Std (Some (result_type s.types result.Held es)) routine.swap (arguments_of (map (handed s.types false) es))))
      (λ e oe f.
      let t = short_given s e oe f in
      let w = wide_in (held_type (sorts.sort_of s.types e)) (held_wide s sound (sorts.sort_of s.types e)) in
      (w.0, (Integer ∷ [], Wide, swap, (t.0, t.1, tt), w.1)))
      es oes k

  -- of an integer, in a type that does not depend on it
  integer_to : (number : ℕ) (ty : TypeId) (outcome : Outcome) → IsStandard number (Integer ∷ []) outcome → IsInTable s.types ty → ((args : Arguments) → Gives s.types outcome (Some ty) args)
      → IsRight (number, shape.One want.Integer, result.Is ty)
  integer_to number ty outcome rule there gives es oes k = one_argument want.Integer (λ es. IsTyped s (Std (Some (result_type s.types (result.Is ty) es)) number (arguments_of (map (handed s.types false) es))))
      (λ e oe f.
      let t = integer_given s e oe f in
      (there, (Integer ∷ [], outcome, rule, (t.0, t.1, tt), gives (ByValue e NoArguments))))
      es oes k

  of_ordinal : IsRight (routine.ord, shape.One want.Ordinal, result.Held)
  of_ordinal es oes k = one_argument want.Ordinal (λ es. IsTyped s (Std (Some (result_type s.types result.Held es)) routine.ord (arguments_of (map (handed s.types false) es))))
      (λ e oe f.
      let t = ordinal_given s e oe f in
      let w = wide_in (held_type (sorts.sort_of s.types e)) (held_wide s sound (sorts.sort_of s.types e)) in
      (w.0, (Ordinal ∷ [], Holding, ord, (t.0, t.1, tt), (w.1, value_held s sound e t.0 f))))
      es oes k

  -- the type that Succ and Pred give is stored like the argument
  neighbour : (o : Option TypeId) → IsSome (stored_as (option_and_then (definition s.types) o))
      → IsInTable s.types (stored_type (stored_of_type s.types o) o) × AreStoredAlike (definition s.types (stored_type (stored_of_type s.types o) o)) (option_and_then (definition s.types) o)
  neighbour None h = absurd h
  neighbour (Some ty) h = by (stored_as (definition s.types ty)) refl h
    where
      by : (w : Option Host) → stored_as (definition s.types ty) ≡ w → IsSome w
          → IsInTable s.types (stored_type w (Some ty)) × AreStoredAlike (definition s.types (stored_type w (Some ty))) (definition s.types ty)
      by None is h = absurd h
      by (Some w) is h =
          let to = predefined_stored s.types sound w ty is in
          let same : AreStoredAlike (definition s.types (predefined w ty)) (definition s.types ty) = record { ordinal = some_of (stored_as (definition s.types (predefined w ty))) w to; same = to ∙ sym is } in
          (stored_in (predefined w ty) w to, same)

  of_neighbour : (number : ℕ) → IsStandard number (Ordinal ∷ []) Alike → IsRight (number, shape.One want.Ordinal, result.Stored)
  of_neighbour number rule es oes k = one_argument want.Ordinal (λ es. IsTyped s (Std (Some (result_type s.types result.Stored es)) number (arguments_of (map (handed s.types false) es))))
      (λ e oe f.
      let t = ordinal_given s e oe f in
      let n = neighbour (type_of e) t.1 in
      (n.0, (Ordinal ∷ [], Alike, rule, (t.0, t.1, tt), n.1)))
      es oes k

  of_char : IsRight (routine.up_case, shape.One want.Char, result.Is char)
  of_char es oes k = one_argument want.Char (λ es. IsTyped s (Std (Some char) routine.up_case (arguments_of (map (handed s.types false) es))))
      (λ e oe f.
      let t = char_given s e oe f in
      (stored_in char host.Char (stored_char s.types sound), (Char ∷ [], Letter, up_case, (t.0, t.1, tt), stored_char s.types sound)))
      es oes k

  of_text : IsRight (routine.length, shape.One want.Text, result.Is integer)
  of_text es oes k = one_argument want.Text (λ es. IsTyped s (Std (Some integer) routine.length (arguments_of (map (handed s.types true) es))))
      (λ e oe f.
      let t = text_taken s sound e oe f in
      (stored_in integer host.Integer (stored_integer s.types sound), (Text ∷ [], Small, length_of, (t.0, t.1, tt), stored_integer s.types sound)))
      es oes k

  -- ---- functions of texts

  text_in : IsInTable s.types string
  text_in = string_in (definition s.types string) (string_type s sound)

  of_copy : IsRight (routine.copy, shape.Triple want.Text want.Integer want.Integer, result.Is string)
  of_copy [] oes k = absurd k
  of_copy (a ∷ []) oes k = absurd k
  of_copy (a ∷ (b ∷ [])) oes k = absurd k
  of_copy (a ∷ (b ∷ (c ∷ []))) oes k =
      let t = text_taken s sound a oes.0 k.0 in
      let i = integer_taken s sound b oes.1.0 k.1.0 in
      let j = integer_taken s sound c oes.1.1.0 k.1.1 in
      (text_in, (Text ∷ (Integer ∷ (Integer ∷ [])), Line, copy, (t.0, t.1, (i.0, i.1, (j.0, j.1, tt))), string_type s sound))
  of_copy (a ∷ (b ∷ (c ∷ (d ∷ es)))) oes k = absurd k

  of_position : IsRight (routine.pos, shape.Pair want.Text want.Text, result.Is (type_id 1))
  of_position [] oes k = absurd k
  of_position (a ∷ []) oes k = absurd k
  of_position (a ∷ (b ∷ [])) oes k =
      let t = text_taken s sound a oes.0 k.0 in
      let u = text_taken s sound b oes.1.0 k.1 in
      (stored_in (type_id 1) host.Byte (stored_byte s.types sound), (Text ∷ (Text ∷ []), Byte, position, (t.0, t.1, (u.0, u.1, tt)), stored_byte s.types sound))
  of_position (a ∷ (b ∷ (c ∷ es))) oes k = absurd k

  texts : List Expression → List Slot
  texts [] = []
  texts (e ∷ es) = Text ∷ texts es

  all_texts : (es : List Expression) → All IsText (texts es)
  unfolding texts
  all_texts [] = All-nil IsText
  all_texts (e ∷ es) = All-cons IsText Text (texts es) refl (all_texts es)

  texts_filled : (es : List Expression) → AreOperands s es → AreTexts (map (sorts.sort_of s.types) es) → FillEach s (texts es) (arguments_of (map (handed s.types true) es))
  unfolding texts
  texts_filled [] oes k = tt
  texts_filled (e ∷ es) oes k =
      let t = text_taken s sound e oes.0 k.0 in
      (t.0, t.1, texts_filled es oes.1 k.1)

  of_texts : IsRight (routine.concat, shape.Texts, result.Is string)
  unfolding texts
  of_texts [] oes k = absurd k
  of_texts (e ∷ es) oes k = (text_in, (Text ∷ texts es, Line, concat (texts es) (all_texts es), texts_filled (e ∷ es) oes k, string_type s sound))

  -- ---- functions of nothing

  of_nothing : (number : ℕ) → IsStandard number [] Truth → IsRight (number, shape.Nothing, result.Is boolean)
  of_nothing number rule [] oes k = (stored_in boolean host.Boolean (stored_boolean s.types sound), ([], Truth, rule, tt, stored_boolean s.types sound))
  of_nothing number rule (e ∷ es) oes k = absurd k

  -- ---- all

  abbrev pub AreRight : List (ℕ × Shape × Result) → Type 0
  AreRight [] = Unit {0}
  AreRight (row ∷ rows) = IsRight row × AreRight rows

  all_right : AreRight signatures
  unfolding signatures
  all_right = (
    of_integer routine.abs abs,
    (
      of_integer routine.sqr sqr,
      (
        integer_to routine.odd boolean Truth odd (stored_in boolean host.Boolean (stored_boolean s.types sound)) (λ args. stored_boolean s.types sound),
        (
          of_ordinal,
          (
            integer_to routine.chr char Letter chr (stored_in char host.Char (stored_char s.types sound)) (λ args. stored_char s.types sound),
            (
              of_neighbour routine.succ succ,
              (
                of_neighbour routine.pred pred,
                (
                  integer_to routine.hi (type_id 1) Byte hi (stored_in (type_id 1) host.Byte (stored_byte s.types sound)) (λ args. stored_byte s.types sound),
                  (
                    integer_to routine.lo (type_id 1) Byte lo (stored_in (type_id 1) host.Byte (stored_byte s.types sound)) (λ args. stored_byte s.types sound),
                    (of_short, (of_char, (of_text, (of_copy, (of_texts, (of_position, (of_nothing routine.eof end_of_file, (of_nothing routine.eoln end_of_line, tt)))))))),
                  ),
                ),
              ),
            ),
          ),
        ),
      ),
    ),
  )

  row_here : (row : ℕ × Shape × Result) (rows : List (ℕ × Shape × Result)) (number : ℕ) (one : Signature) → AreRight (row ∷ rows)
      → (signature_in rows number ≡ Some one → IsRight (number, one.shape, one.outcome)) → (b : Bool) → (row.0 == number) ≡ b
      → cond b (Some (let it : Signature = record { shape = row.1; outcome = row.2 } in it)) (signature_in rows number) ≡ Some one → IsRight (number, one.shape, one.outcome)
  row_here row rows number one right rec true is e =
      let same : row.0 ≡ number = (Decides-eqb row.0 number).0 is in
      let of : IsRight (number, row.1, row.2) = subst (λ (n : ℕ). IsRight (n, row.1, row.2)) same right.0 in
      let made : (let it : Signature = record { shape = row.1; outcome = row.2 } in it) ≡ one = cc in
      subst (λ (it : Signature). IsRight (number, it.shape, it.outcome)) made of
  row_here row rows number one right rec false is e = rec e

  row_right : (rows : List (ℕ × Shape × Result)) (number : ℕ) (one : Signature) → AreRight rows → signature_in rows number ≡ Some one → IsRight (number, one.shape, one.outcome)
  row_right [] number one right e = let bad : ⊥ = cc in absurd bad
  row_right (row ∷ rows) number one right e = row_here row rows number one right (λ k. row_right rows number one right.1 k) (row.0 == number) refl e

  by_row : (place : Place) (number : ℕ) (o : Option Signature) → signature_of number ≡ o → (es : List Expression) (e : Expression) → AreOperands s es → (by_signature s.types place number o es).holds e → IsTyped s e
  by_row place number None is es e oes h = absurd h
  by_row place number (Some one) is es e oes h =
      subst (λ (x : Expression). IsTyped s x) (sym h.made) (row_right signatures number one all_right is es oes h.asked)

  pub standard_typed : (place : Place) (number : ℕ) (es : List Expression) (e : Expression) → AreOperands s es → (standard s.types place number es).holds e → IsTyped s e
  unfolding standard
  standard_typed place number es e oes h = by_row place number (signature_of number) refl es e oes h

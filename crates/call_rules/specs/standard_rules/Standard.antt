-- Calls of standard functions.
use Rattle.std.specs.Prelude.{◌≡◌, ℕ, ◌==◌, Bool, true, false, not, ◌&&◌, ◌||◌, cond, List, [], ◌∷◌, Option, Some, None, map}
use Rattle.type_layout.specs.declared.definitions.TypeId.{TypeId}
use Rattle.type_layout.specs.declared.definitions.TypeDef.{TypeDef}
use Rattle.type_layout.specs.declared.definitions.Host.{Host}
use Rattle.type_layout.specs.declared.texts.Place.{Place}
use Rattle.typed_tree.specs.Expressions.{Expression, Std, type_of}
use Rattle.typed_tree.specs.Standard as routine
use Rattle.typing_rules.specs.declared.faults.Rule.TheVariants as rules
use Rattle.typing_rules.specs.declared.sorts.Sort.{Sort}
use Rattle.typing_rules.specs.declared.sorts.Sort.TheVariants as sort
use Rattle.typing_rules.specs.Faults.{broken}
use Rattle.typing_rules.specs.Judgements.{Judgement, refuses, rule}
use Rattle.typing_rules.specs.Sorts.{integer, long_int, holding_type, sort_of}
use Rattle.typing_rules.specs.Wanted.{predefined, stored_of, as_text}
use Rattle.typing_rules.specs.Plans.{IsInteger, is_integer, IsText, is_text}
use Rattle.call_rules.specs.Casts.{IsOrdinal, is_ordinal}
use Rattle.call_rules.specs.Given.{Handed, value, arguments_of}
use Rattle.call_rules.specs.declared.standard_rules.signatures.Want.{Want}
use Rattle.call_rules.specs.declared.standard_rules.signatures.Want.TheVariants.{Integer, Short, Ordinal, Char, Text}
use Rattle.call_rules.specs.declared.standard_rules.signatures.Shape.{Shape}
use Rattle.call_rules.specs.declared.standard_rules.signatures.Shape.TheVariants.{Nothing, One, Pair, Triple, Texts}
use Rattle.call_rules.specs.declared.standard_rules.signatures.Outcome.{Outcome}
use Rattle.call_rules.specs.declared.standard_rules.signatures.Outcome.TheVariants.{Held, Stored, Is}
use Rattle.call_rules.specs.declared.standard_rules.signatures.Signature.{Signature}
use Rattle.call_rules.specs.standard_rules.Signatures.{signature_of}

-- ---- one argument

-- an integer that Integer or Word holds
abbrev pub IsShort : Sort → Type 0
IsShort (sort.Integer r) = (holding_type r).0 ≡ long_int.0 → ⊥
IsShort _ = ⊥

abbrev pub is_short : Sort → Bool
is_short (sort.Integer r) = not ((holding_type r).0 == long_int.0)
is_short _ = false

abbrev pub IsChar : Sort → Type 0
IsChar sort.Char = Unit {0}
IsChar _ = ⊥

abbrev pub is_char : Sort → Bool
is_char sort.Char = true
is_char _ = false

abbrev pub Fits : Want → Sort → Type 0
Fits Integer s = IsInteger s
Fits Short s = IsShort s
Fits Ordinal s = IsOrdinal s
Fits Char s = IsChar s
Fits Text s = IsText s

abbrev pub fits : Want → Sort → Bool
fits Integer s = is_integer s
fits Short s = is_short s
fits Ordinal s = is_ordinal s
fits Char s = is_char s
fits Text s = is_text s

-- ---- all arguments

abbrev pub AreTexts : List Sort → Type 0
AreTexts [] = Unit {0}
AreTexts (s ∷ sorts) = IsText s × AreTexts sorts

abbrev pub are_texts : List Sort → Bool
are_texts [] = true
are_texts (s ∷ sorts) = is_text s && are_texts sorts

-- as many as are asked for, and each as is asked of it; texts are one or more
abbrev pub Accepts : Shape → List Sort → Type 0
Accepts Nothing [] = Unit {0}
Accepts (One a) (s ∷ []) = Fits a s
Accepts (Pair a b) (s ∷ (t ∷ [])) = Fits a s × Fits b t
Accepts (Triple a b c) (s ∷ (t ∷ (u ∷ []))) = Fits a s × (Fits b t × Fits c u)
Accepts Texts (s ∷ sorts) = AreTexts (s ∷ sorts)
Accepts _ _ = ⊥

abbrev pub accepts : Shape → List Sort → Bool
accepts Nothing [] = true
accepts (One a) (s ∷ []) = fits a s
accepts (Pair a b) (s ∷ (t ∷ [])) = fits a s && fits b t
accepts (Triple a b c) (s ∷ (t ∷ (u ∷ []))) = fits a s && (fits b t && fits c u)
accepts Texts (s ∷ sorts) = are_texts (s ∷ sorts)
accepts _ _ = false

-- ---- the node

-- whether a Char stands as a string there
abbrev pub is_for_text : Want → Bool
is_for_text Text = true
is_for_text _ = false

abbrev pub takes_text : Shape → Bool
takes_text Nothing = false
takes_text (One a) = is_for_text a
takes_text (Pair a b) = is_for_text a
takes_text (Triple a b c) = is_for_text a
takes_text Texts = true

abbrev pub as_taken : List TypeDef → Bool → Expression → Expression
as_taken types text e = cond text (as_text (stored_of types e) e) e

abbrev pub handed : List TypeDef → Bool → Expression → Handed
handed types text e = value (as_taken types text e)

-- the first of Integer, Word and LongInt that holds an ordinal
abbrev pub held_type : Sort → TypeId
held_type (sort.Integer r) = holding_type r
held_type _ = integer

abbrev pub stored_type : Option Host → Option TypeId → TypeId
stored_type (Some stored) (Some ty) = predefined stored ty
stored_type _ _ = integer

-- the type of the result, by the first argument where it depends on one
abbrev pub result_type : List TypeDef → Outcome → List Expression → TypeId
result_type types (Is ty) es = ty
result_type types Held (e ∷ es) = held_type (sort_of types e)
result_type types Stored (e ∷ es) = stored_type (stored_of types e) (type_of e)
result_type types _ [] = integer

abbrev pub of_signature : List TypeDef → Place → ℕ → Signature → List Expression → Judgement Expression
of_signature types place number one es =
    rule (broken place rules.Called) (accepts one.shape (map (sort_of types) es)) (Accepts one.shape (map (sort_of types) es))
    (Std (Some (result_type types one.outcome es)) number (arguments_of (map (handed types (takes_text one.shape)) es)))

-- SizeOf and New, whose arguments are no values of a row of the table
abbrev pub is_special : ℕ → Bool
is_special number = (number == routine.size_of) || (number == routine.new)

-- a procedure stands in no expression
abbrev pub by_signature : List TypeDef → Place → ℕ → Option Signature → List Expression → Judgement Expression
by_signature types place number None es = refuses (broken place rules.Stands)
by_signature types place number (Some one) es = of_signature types place number one es

-- the call of a standard function at a place
unfoldable pub standard : List TypeDef → Place → ℕ → List Expression → Judgement Expression
standard types place number es = by_signature types place number (signature_of number) es

-- The table of the standard routines.
use Rattle.std.proofs.Common.{◌≡◌, ℕ, ◌<◌, ◌≤◌, true, false, List, [], ◌∷◌, map, get_or, Option, Some, None, refl, sym, ap, ◌∙◌, arith}
use Rattle.std.specs.Prelude.{slice_get, nat_lt}
use Rattle.std.specs.Option.{option_map, option_flatten}
use Rattle.std.proofs.lemmas.Option.{slice_get-map, slice_get_past, slice_get_read}
use Rattle.std.proofs.lemmas.Bool.Decides.{nat_tests}
use Rattle.tp_meaning.specs.Standard.{standard}
use Rattle.interpreter_effects.specs.declared.standard_effects.functions.Kept.TheVariants as kept
use Rattle.interpreter_effects.specs.declared.standard_effects.functions.Plain.TheVariants as plain
use Rattle.interpreter_effects.specs.declared.standard_effects.functions.Texts.TheVariants as texts
use Rattle.interpreter_effects.specs.declared.standard_effects.changes.Change.TheVariants as change
use Rattle.interpreter_effects.specs.declared.standard_effects.routines.Standard.{Standard}
use Rattle.interpreter_effects.specs.declared.standard_effects.routines.Standard.TheVariants as kind
use Rattle.interpreter_effects.specs.standard_effects.Effects.{view_standard}

flat : {A B : Type 0} (f : A → B) (o : Option (Option A)) → option_map f (option_flatten o) ≡ option_flatten (option_map (option_map f) o)
flat f None = refl
flat f (Some None) = refl
flat f (Some (Some x)) = refl

-- what a table has at a number, seen in another way
pub entry_seen : {A B : Type 0} (f : A → B) (table : List (Option A)) (number : ℕ) → option_map f (option_flatten (slice_get table number)) ≡ option_flatten (slice_get (map (option_map f) table) number)
entry_seen f table number = flat f (slice_get table number) ∙ ap option_flatten (sym (slice_get-map (option_map f) table number))

-- the table in src/
abbrev pub table : List (Option Standard)
table =
    Some (kind.OfKept kept.Abs) ∷ Some (kind.OfKept kept.Sqr) ∷ Some (kind.OfPlain plain.Odd) ∷ Some (kind.OfPlain plain.Ord) ∷ Some (kind.OfPlain plain.Chr)
    ∷ Some (kind.OfKept kept.Succ) ∷ Some (kind.OfKept kept.Pred) ∷ Some (kind.Changing change.Inc) ∷ Some (kind.Changing change.Dec) ∷ Some (kind.OfPlain plain.Hi)
    ∷ Some (kind.OfPlain plain.Lo) ∷ Some (kind.OfKept kept.Swap) ∷ Some kind.SizeOf ∷ Some (kind.OfPlain plain.UpCase) ∷ Some (kind.OfTexts texts.Length)
    ∷ Some (kind.OfTexts texts.Copy) ∷ Some (kind.Changing change.Delete) ∷ Some (kind.Changing change.Insert) ∷ Some (kind.OfTexts texts.Concat)
    ∷ Some (kind.OfTexts texts.Pos) ∷ Some (kind.Changing change.Str) ∷ Some (kind.Changing change.Val) ∷ None ∷ None ∷ None ∷ None ∷ Some kind.Eof ∷ Some kind.Eoln
    ∷ Some kind.New ∷ Some (kind.Changing change.Dispose) ∷ []

pub standard_is : (number : ℕ) (found : Option (Option Standard)) → found ≡ slice_get table number → option_map view_standard (option_flatten found) ≡ standard number
standard_is number found e = ap (λ (o : Option (Option Standard)). option_map view_standard (option_flatten o)) e ∙ entry_seen view_standard table number

past_thirty : (n : ℕ) → false ≡ nat_lt n 30 → 30 ≤ n
past_thirty n e = grind (arith, nat_tests)

below_thirty : (n : ℕ) → true ≡ nat_lt n 30 → n < 30
below_thirty n e = grind (arith, nat_tests)

-- past the table there is no routine
pub none_past : (number : ℕ) → false ≡ nat_lt number 30 → None ≡ standard number
none_past number e = standard_is number None (sym (slice_get_past table number (past_thirty number e)))

-- what the table has at a number is its routine
pub one_within : (number : ℕ) (one : Option Standard) → true ≡ nat_lt number 30 → one ≡ get_or table number one → option_map view_standard one ≡ standard number
one_within number one e f = standard_is number (Some one) (sym (slice_get_read table 30 number one refl (below_thirty number e) f))

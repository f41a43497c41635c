-- The runtime passes the test of code: of all its routines at once, and so of each.
use Rattle.std.proofs.Common.{◌≡◌, ℕ, zero, suc, inl, inr, Bool, true, List, [], ◌∷◌, Option, Some, refl, sym, ap, subst, ◌∙◌}
use Rattle.std.specs.Prelude.{slice_get}
use Rattle.std.specs.List.{list_all}
use Rattle.std.specs.Option.{option_and_then}
use Rattle.std.proofs.lemmas.Bool.{and_parts}
use Rattle.flat_code.specs.Program.{Name, Routine, UnitCode, FlatProgram}
use Rattle.rt_text.specs.Unit.{text_code}
use Rattle.rt_strings.specs.Unit.{strings_code}
use Rattle.heap_runtime.specs.Unit.{heap_code}
use Rattle.runtime_units.specs.Units.{runtime_codes, HoldsRuntime}
use Rattle.runtime_units.specs.PlainCode.{is_plain, is_plain_unit, runtime_is_plain, IsPlainRuntime}

pub all-plain : runtime_is_plain ≡ true
all-plain = refl

-- one of a list, of which all pass a test
one-of : {A : Type 0} (f : A → Bool) (xs : List A) (n : ℕ) (x : A) → list_all f xs ≡ true → slice_get xs n ≡ Some x → f x ≡ true
one-of f [] n x h e = absurd cc
one-of f (y ∷ xs) zero x h e = let same : y ≡ x = cc in subst (λ z. f z ≡ true) same (and_parts (f y) (list_all f xs) h).0
one-of f (y ∷ xs) (suc n) x h e = one-of f xs n x (and_parts (f y) (list_all f xs) h).1 e

text-plain : is_plain_unit text_code ≡ true
text-plain = one-of is_plain_unit runtime_codes 0 text_code all-plain refl

strings-plain : is_plain_unit strings_code ≡ true
strings-plain = one-of is_plain_unit runtime_codes 1 strings_code all-plain refl

heap-plain : is_plain_unit heap_code ≡ true
heap-plain = one-of is_plain_unit runtime_codes 2 heap_code all-plain refl

module _ (program : FlatProgram) (held : HoldsRuntime program) where
  plain-in : (name : Name) (number : ℕ) (unit : UnitCode) (r : Routine) → program.unit name ≡ Some unit → is_plain_unit unit ≡ true → option_and_then (λ (unit : UnitCode). slice_get unit.routines number) (program.unit name) ≡ Some r → is_plain r.body ≡ true
  plain-in name number unit r there all e =
      one-of (λ (r : Routine). is_plain r.body) unit.routines number r all (ap (λ (o : Option UnitCode). option_and_then (λ (unit : UnitCode). slice_get unit.routines number) o) (sym there) ∙ e)

  pub plain : IsPlainRuntime program
  plain key r (inl is) e = plain-in key.unit key.number _ r (ap program.unit is ∙ held.text.is_there) text-plain e
  plain key r (inr (inl is)) e = plain-in key.unit key.number _ r (ap program.unit is ∙ held.strings.is_there) strings-plain e
  plain key r (inr (inr is)) e = plain-in key.unit key.number _ r (ap program.unit is ∙ held.heap.is_there) heap-plain e

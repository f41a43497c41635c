-- What the linker is told of the units of a program is what the program says of them.
use Rattle.std.proofs.Common.{◌≡◌, ℕ, Bool, true, false, not, ◌&&◌, if◌then◌else◌, List, [], ◌∷◌, ◌++◌, map, Option, Some, None, sym, ap, ◌∙◌, refl}
use Rattle.flat_code.specs.declared.unit.FlatUnit.{FlatUnit}
use Rattle.typed_tree.specs.declared.units.Unit.{Unit as TypedUnit}
use Rattle.typed_tree.specs.declared.units.Program.{Program}
use Rattle.tp_meaning.specs.Programs.{overlaid}
use Rattle.smart_linker.specs.declared.unit.LinkUnit.{LinkUnit}
use Rattle.smart_linker.specs.Names.{overlaid_names as linked_names}
use Rattle.smart_linker.specs.Overlaid.{is_unfit as is_unfit_unit, is_unmarked, first_where}
use Rattle.back_end.specs.Overlaid.{names_among, first_unfit_among, overlaid_names, first_unfit}
use Rattle.back_end.specs.Told.{Told, told, told_of, told_of_runtime, AreUnitsOf}

abbrev names_told : List Told → List (List ℕ)
names_told [] = []
names_told (one ∷ all) = if one.overlaid then one.name ∷ names_told all else names_told all

abbrev first_told : (Told → Bool) → List Told → Option (List ℕ)
first_told test [] = None
first_told test (one ∷ all) = if test one then Some one.name else first_told test all

abbrev is_unfit_told : Told → Bool
is_unfit_told one = one.overlaid && not one.overlayable

abbrev is_unmarked_told : Told → Bool
is_unmarked_told one = not one.marked

names-read : (units : List LinkUnit) → linked_names units ≡ names_told (map told units)
names-read [] = refl
names-read (unit ∷ units) = ap (λ (names : List (List ℕ)). if unit.overlaid then unit.name ∷ names else names) (names-read units)

first-read : (test : Told → Bool) (units : List LinkUnit) → first_where (λ unit. test (told unit)) units ≡ first_told test (map told units)
first-read test [] = refl
first-read test (unit ∷ units) = ap (λ (first : Option (List ℕ)). if test (told unit) then Some unit.name else first) (first-read test units)

-- ---- of a program

module _ (names : List (List ℕ)) (runtime : List FlatUnit) where
  abbrev all_told : List TypedUnit → List Told
  all_told typed = map (told_of names) typed ++ map told_of_runtime runtime

none-overlaid : (runtime : List FlatUnit) → names_told (map told_of_runtime runtime) ≡ []
none-overlaid [] = refl
none-overlaid (unit ∷ units) = none-overlaid units

none-unfit : (runtime : List FlatUnit) → first_told is_unfit_told (map told_of_runtime runtime) ≡ None
none-unfit [] = refl
none-unfit (unit ∷ units) = none-unfit units

none-unmarked : (runtime : List FlatUnit) → first_told is_unmarked_told (map told_of_runtime runtime) ≡ None
none-unmarked [] = refl
none-unmarked (unit ∷ units) = none-unmarked units

names-of : (names : List (List ℕ)) (runtime : List FlatUnit) (typed : List TypedUnit) → names_told (all_told names runtime typed) ≡ names_among names typed
names-of names runtime [] = none-overlaid runtime
names-of names runtime (unit ∷ typed) = ap (λ (rest : List (List ℕ)). if (told_of names unit).overlaid then unit.name ∷ rest else rest) (names-of names runtime typed)

unfit-of : (names : List (List ℕ)) (runtime : List FlatUnit) (typed : List TypedUnit) → first_told is_unfit_told (all_told names runtime typed) ≡ first_unfit_among names typed
unfit-of names runtime [] = none-unfit runtime
unfit-of names runtime (unit ∷ typed) = ap (λ (first : Option (List ℕ)). if is_unfit_told (told_of names unit) then Some unit.name else first) (unfit-of names runtime typed)

unmarked-of : (names : List (List ℕ)) (runtime : List FlatUnit) (typed : List TypedUnit) → first_told is_unmarked_told (all_told names runtime typed) ≡ None
unmarked-of names runtime [] = none-unmarked runtime
unmarked-of names runtime (unit ∷ typed) = unmarked-of names runtime typed

-- ---- for the linker

pub linked-names : (names : List (List ℕ)) (typed : List TypedUnit) (units : List LinkUnit) → AreUnitsOf names typed units → linked_names units ≡ names_among names typed
linked-names names typed units are = names-read units ∙ ap names_told are.told_so ∙ names-of names are.runtime typed

pub linked-unfit : (names : List (List ℕ)) (typed : List TypedUnit) (units : List LinkUnit) → AreUnitsOf names typed units → first_where is_unfit_unit units ≡ first_unfit_among names typed
linked-unfit names typed units are = first-read is_unfit_told units ∙ ap (first_told is_unfit_told) are.told_so ∙ unfit-of names are.runtime typed

pub linked-marked : (names : List (List ℕ)) (typed : List TypedUnit) (units : List LinkUnit) → AreUnitsOf names typed units → first_where is_unmarked units ≡ None
linked-marked names typed units are = first-read is_unmarked_told units ∙ ap (first_told is_unmarked_told) are.told_so ∙ unmarked-of names are.runtime typed

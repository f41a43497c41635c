-- The predeclared types have no methods.
use Rattle.std.proofs.Common.{◌≡◌, ℕ, zero, suc, List, [], ◌∷◌, Some, refl, sym, ap, subst}
use Rattle.std.specs.Prelude.{slice_get}
use Rattle.unit_references.specs.type_layout.Table.{HasMethodsOf}
use Rattle.units_well_formed.specs.scopes.Predeclared.{system, type_list, type_table}
use Rattle.units_well_formed.specs.unit_interface.declared.keys.Key.{Key}
use Rattle.units_well_formed.specs.unit_interface.Merge.{keys_of}
use Rattle.shared_types_agree.specs.programs.Consistency.{AreOwned}

-- each element of a list
abbrev pub Each : {A : Type 0} → (A → Type 0) → List A → Type 0
Each P [] = Unit {0}
Each P (x ∷ xs) = P x × Each P xs

pub at_each : {A : Type 0} → (P : A → Type 0) (xs : List A) (number : ℕ) (x : A) → Each P xs → slice_get xs number ≡ Some x → P x
at_each P [] zero x all at = cc
at_each P [] (suc number) x all at = cc
at_each P (y ∷ ys) zero x all at = let same : y ≡ x = cc in subst P same all.0
at_each P (y ∷ ys) (suc number) x all at = at_each P ys number x all.1 at

abbrev OfSystem : Key → Type 0
OfSystem key = key.unit ≡ system

all_of_system : Each OfSystem (keys_of type_table)
all_of_system = (refl, (refl, (refl, (refl, (refl, (refl, (refl, (refl, (refl, (refl, (refl, tt)))))))))))

all_plain : Each (HasMethodsOf 0) type_list
all_plain = (tt, (tt, (tt, (tt, (tt, (tt, (tt, (tt, (tt, (tt, (tt, tt)))))))))))

pub first_owned : AreOwned type_table
first_owned number key one at stands = record {
  place = 0;
  named = ap (λ (u : List ℕ). Some u) (sym (at_each OfSystem (keys_of type_table) number key all_of_system at));
  methods = at_each (HasMethodsOf 0) type_list number one all_plain stands;
}

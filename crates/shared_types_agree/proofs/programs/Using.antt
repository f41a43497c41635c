-- Scopes in which units come that are used behind an interface part: the types of the unit itself stay those that it has declared.
use Rattle.std.proofs.Common.{◌≡◌, ◌∙◌, inl, inr, ℕ, Bool, true, false, cond, List, [], ◌∷◌, Option, Some, None, refl, sym, ap, subst}
use Rattle.std.specs.Prelude.{slice_get}
use Rattle.unit_references.specs.type_layout.Table.{Table}
use Rattle.units_well_formed.specs.syntax_tree.declared.identifier.Identifier.{Identifier}
use Rattle.units_well_formed.specs.scopes.Environment.{Environment}
use Rattle.units_well_formed.specs.scopes.Predeclared.{first}
use Rattle.units_well_formed.specs.unit_interface.declared.keys.Key.{Key}
use Rattle.units_well_formed.specs.unit_interface.declared.interfaces.Interface.{Interface}
use Rattle.units_well_formed.specs.unit_interface.Merge.{keys_of, with_types}
use Rattle.units_well_formed.specs.unit_interface.Keyed.{IsKeyed}
use Rattle.units_well_formed.specs.unit_interface.Resolve.{is_overlay, interface_named, with_overlay, with_found, with_use, with_uses}
use Rattle.units_well_formed.specs.tp_check_decl.Interfaces.{all_used}
use Rattle.units_well_formed.specs.imported_types_agree.consistent_types.Consistency.{Stands, AreWellScopedHomes, AreAtHome, AreOthersAtHome}
use Rattle.units_well_formed.proofs.imported_types_agree_proofs.consistent_types.Arrived.{key_from}
use Rattle.units_well_formed.specs.imported_types_agree.compatible_types.Fits.{IsConsistentScope, IsConsistentUse}
use Rattle.units_well_formed.proofs.imported_types_agree_proofs.compatible_types.Uses.{used_told}
use Rattle.shared_types_agree.specs.programs.Consistency.{AreOwned}
use Rattle.shared_types_agree.proofs.programs.Owned.{types_owned}
use Rattle.shared_types_agree.proofs.programs.First.{first_owned}

-- The unit's own types are those of another table, and stay there; types of others are at home.
pub record IsOwnTable (have : List Interface) (name : List ℕ) (base table : Table) : Type 0 where
  pub at_home : AreOthersAtHome have name table
  pub from : (place : ℕ) (key : Key) → key.unit ≡ name → slice_get (keys_of table) place ≡ Some key → Stands (keys_of base) key
  pub owned : AreOwned table

module _ (have : List Interface) (name : List ℕ) (base : Table) where
  -- what the interface tells of the unit's types stands in the table
  abbrev pub TellsOwn : Interface → Type 0
  TellsOwn i = (number : ℕ) (key : Key) → slice_get (keys_of i.types) number ≡ Some key → key.unit ≡ name → Stands (keys_of base) key

  merged_own : (table other : Table) → IsKeyed table → IsKeyed other → AreAtHome have other → ((number : ℕ) (key : Key) → slice_get (keys_of other) number ≡ Some key → key.unit ≡ name → Stands (keys_of base) key)
      → IsOwnTable have name base table → IsOwnTable have name base (with_types table other)
  merged_own table other keyed also home tells h = record {
    at_home = λ number key far at. elim (key_from table other keyed also number key at) [
      | inl before ↦ h.at_home number key far before
      | inr more ↦ home more.place key more.at
    ];
    from = λ place key mine at. elim (key_from table other keyed also place key at) [
      | inl before ↦ h.from place key mine before
      | inr more ↦ tells more.place key more.at mine
    ];
    owned = types_owned table other keyed h.owned;
  }

  use_own : (g : Environment) (word : List ℕ) → IsConsistentScope have g → IsConsistentUse have word → (is_overlay word ≡ false → (i : Interface) → interface_named have word ≡ Some i → TellsOwn i)
      → IsOwnTable have name base g.types → IsOwnTable have name base (with_use have g word).types
  use_own g word scope told tells h = by (is_overlay word) refl (interface_named have word) refl
    where
      by : (b : Bool) → is_overlay word ≡ b → (found : Option Interface) → interface_named have word ≡ found → IsOwnTable have name base (cond b (with_overlay g) (with_found g found)).types
      by true is found at = h
      by false is None at = h
      by false is (Some i) at = (let o = told is i at in merged_own g.types i.types scope.told.keyed o.told.keyed o.at_home (tells is i at) h)

  -- behind several units
  pub record IsOwnScope (g : Environment) : Type 0 where
    pub scope : IsConsistentScope have g
    pub table : IsOwnTable have name base g.types

  module _ (homes : AreWellScopedHomes have) (told : (word : List ℕ) → IsConsistentUse have word) (tells : (word : List ℕ) → is_overlay word ≡ false → (i : Interface) → interface_named have word ≡ Some i → TellsOwn i) where
    next_own : (g : Environment) (word : List ℕ) → IsOwnScope g → IsOwnScope (with_use have g word)
    next_own g word h = record { scope = used_told have homes g word h.scope (told word); table = use_own g word h.scope (told word) (tells word) h.table }

    pub all_own : (g : Environment) (uses : List Identifier) (h : Environment) → (all_used have g uses).holds h → IsOwnScope g → IsOwnScope h
    all_own g [] h e own = subst (λ (x : Environment). IsOwnScope x) (sym e) own
    all_own g (one ∷ rest) h e own = all_own e.part rest h e.made (subst (λ (x : Environment). IsOwnScope x) (sym e.holds.made) (next_own g one.name own))

-- ---- scopes that sources are read over

module _ (have : List Interface) (homes : AreWellScopedHomes have) (told : (word : List ℕ) → IsConsistentUse have word) where
  use_owned : (g : Environment) (word : List ℕ) → IsConsistentScope have g → AreOwned g.types → AreOwned (with_use have g word).types
  use_owned g word scope h = by (is_overlay word) refl (interface_named have word) refl
    where
      by : (b : Bool) → is_overlay word ≡ b → (found : Option Interface) → interface_named have word ≡ found → AreOwned (cond b (with_overlay g) (with_found g found)).types
      by true is found at = h
      by false is None at = h
      by false is (Some i) at = types_owned g.types i.types scope.told.keyed h

  pub uses_owned : (g : Environment) (words : List (List ℕ)) → IsConsistentScope have g → AreOwned g.types → AreOwned (with_uses have g words).types
  uses_owned g [] scope h = h
  uses_owned g (word ∷ words) scope h = uses_owned (with_use have g word) words (used_told have homes g word scope (told word)) (use_owned g word scope h)

  pub outer_owned : (name : List ℕ) (words : List (List ℕ)) → IsConsistentScope have (first name) → AreOwned (with_uses have (first name) words).types
  outer_owned name words scope = uses_owned (first name) words scope first_owned

-- ---- used units open no block

use_bare : (have : List Interface) (g : Environment) (word : List ℕ) → (with_use have g word).blocks ≡ g.blocks
use_bare have g word = by (is_overlay word) (interface_named have word)
  where
    by : (b : Bool) (found : Option Interface) → (cond b (with_overlay g) (with_found g found)).blocks ≡ g.blocks
    by true found = refl
    by false None = refl
    by false (Some one) = refl

pub uses_bare : (have : List Interface) (g : Environment) (words : List (List ℕ)) → (with_uses have g words).blocks ≡ g.blocks
uses_bare have g [] = refl
uses_bare have g (word ∷ words) = uses_bare have (with_use have g word) words ∙ use_bare have g word

pub used_bare : (have : List Interface) (g : Environment) (uses : List Identifier) (h : Environment) → (all_used have g uses).holds h → h.blocks ≡ g.blocks
used_bare have g [] h e = ap (λ (x : Environment). x.blocks) e
used_bare have g (one ∷ rest) h e = used_bare have e.part rest h e.made ∙ ap (λ (x : Environment). x.blocks) e.holds.made ∙ use_bare have g one.name

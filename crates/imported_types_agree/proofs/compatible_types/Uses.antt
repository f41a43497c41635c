-- Told interfaces, one behind the other, fit a told scope.
use Rattle.std.proofs.Common.{◌≡◌, ℕ, Bool, true, false, ◌||◌, cond, List, [], ◌∷◌, Option, Some, None, refl, subst}
use Rattle.std.specs.Prelude.{option_map}
use Rattle.std.proofs.lemmas.Option.{same_Some}
use Rattle.tables_closed.specs.type_layout.Words.{same_bytes}
use Rattle.tables_closed.specs.scopes.Environment.{Environment}
use Rattle.tables_closed.specs.scopes.Predeclared.{system, first, type_table}
use Rattle.tables_closed.specs.unit_interface.declared.interfaces.Interface.{Interface}
use Rattle.tables_closed.specs.unit_interface.Resolve.{is_overlay, interface_named, with_overlay, with_found, with_use, with_uses}
use Rattle.tables_closed.specs.unit_interface.Fitting.{types_fit, found_fits, use_fits, uses_fit}
use Rattle.imported_types_agree.specs.well_scoped.Scopes.{IsCompleteScope, IsWellScopedInterface}
use Rattle.imported_types_agree.proofs.well_scoped.Beginning.{first_complete}
use Rattle.imported_types_agree.proofs.well_scoped.Using.{use_complete}
use Rattle.imported_types_agree.specs.consistent_types.Consistency.{IsWellScopedTable, AreWellScopedHomes, IsConsistent, IsConsistentInterface}
use Rattle.imported_types_agree.proofs.consistent_types.First.{first_told}
use Rattle.imported_types_agree.proofs.consistent_types.Merged.{merged_told}
use Rattle.imported_types_agree.specs.compatible_types.Fits.{IsConsistentScope, IsConsistentUse, AreConsistentUses}
use Rattle.imported_types_agree.proofs.compatible_types.Steps.{all_fit}

-- ---- the tables of units

-- the table of a complete scope is closed
pub closed_table : (g : Environment) → IsCompleteScope g → IsWellScopedTable g.types
closed_table g h = record { paired = h.ordered.paired; types = h.closed.types }

predeclared_closed : IsWellScopedTable type_table
predeclared_closed = closed_table (first system) (first_complete system)

pub closed_homes : (have : List Interface) → ((name : List ℕ) (i : Interface) → interface_named have name ≡ Some i → IsWellScopedInterface i) → AreWellScopedHomes have
closed_homes have all unit home is = by (same_bytes unit system) (interface_named have unit) refl is
  where
    by : (b : Bool) (found : Option Interface) → interface_named have unit ≡ found → cond b (Some type_table) (option_map (λ (i : Interface). i.types) found) ≡ Some home → IsWellScopedTable home
    by true found at e = subst IsWellScopedTable (same_Some type_table home e) predeclared_closed
    by false None at e = absurd (cc)
    by false (Some i) at e =
        let c = all unit i at in
        subst IsWellScopedTable (same_Some i.types home e) (record { paired = c.paired; types = c.types })

-- ---- scopes

module _ (have : List Interface) (homes : AreWellScopedHomes have) where
  pub types_told : (g : Environment) (i : Interface) → IsConsistentScope have g → IsConsistentInterface have i → types_fit g.types i.types ≡ true
  types_told g i h own = all_fit have homes g.types i h.told h.complete.ordered (closed_table g h.complete) own

  pub use_told : (g : Environment) (name : List ℕ) → IsConsistentScope have g → IsConsistentUse have name → use_fits have g name ≡ true
  use_told g name h own = by (is_overlay name) refl (interface_named have name) refl
    where
      by : (b : Bool) → is_overlay name ≡ b → (found : Option Interface) → interface_named have name ≡ found → (b || found_fits g found) ≡ true
      by true is found at = refl
      by false is None at = refl
      by false is (Some i) at = types_told g i h (own is i at)

  -- the scope stays told with a used unit
  pub used_told : (g : Environment) (name : List ℕ) → IsConsistentScope have g → IsConsistentUse have name → IsConsistentScope have (with_use have g name)
  used_told g name h own = record {
    told = by (is_overlay name) refl (interface_named have name) refl;
    complete = use_complete have g name h.complete (λ is i at. (own is i at).closed) (use_told g name h own);
  }
    where
      by : (b : Bool) → is_overlay name ≡ b → (found : Option Interface) → interface_named have name ≡ found → IsConsistent have (cond b (with_overlay g) (with_found g found)).types
      by true is found at = h.told
      by false is None at = h.told
      by false is (Some i) at = merged_told have homes g.types i h.told (closed_table g h.complete) (own is i at)

  pub uses_told : (g : Environment) (names : List (List ℕ)) → IsConsistentScope have g → AreConsistentUses have names → uses_fit have g names ≡ true
  uses_told g [] h own = refl
  uses_told g (name ∷ names) h own =
      let rest = uses_told (with_use have g name) names (used_told g name h own.0) own.1 in
      rw (use_told g name h own.0) rest

  pub all_used_told : (g : Environment) (names : List (List ℕ)) → IsConsistentScope have g → AreConsistentUses have names → IsConsistentScope have (with_uses have g names)
  all_used_told g [] h own = h
  all_used_told g (name ∷ names) h own = all_used_told (with_use have g name) names (used_told g name h own.0) own.1

  pub first_scope : (name : List ℕ) → IsConsistentScope have (first name)
  first_scope name = record { told = first_told have; complete = first_complete name }

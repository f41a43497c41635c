-- The tables of scopes and of the drafts behind interface parts.
use Rattle.std.proofs.Common.{◌≡◌, ◌∙◌, ℕ, Bool, true, false, cond, List, [], ◌∷◌, ◌++◌, Option, Some, None, refl, sym, ap, append_assoc, append-nil}
use Rattle.std.specs.Cmp.Lexicographic.{same_text}
use Rattle.units_well_formed.specs.type_layout.declared.definitions.TypeDef.{TypeDef}
use Rattle.units_well_formed.specs.type_layout.Words.{same_bytes}
use Rattle.units_well_formed.specs.type_layout.Table.{Table, with_type}
use Rattle.units_well_formed.specs.scopes.Environment.{Environment}
use Rattle.units_well_formed.specs.unit_interface.declared.interfaces.Interface.{Interface}
use Rattle.units_well_formed.specs.unit_interface.Keyed.{IsKeyed}
use Rattle.units_well_formed.specs.unit_interface.Resolve.{is_overlay, interface_named, with_overlay, with_found, with_use}
use Rattle.units_well_formed.specs.declaration_checker.type_denoters.Additions.{count_of}
use Rattle.programs_well_formed.specs.imported_interfaces.Below.{items_of}
use Rattle.interfaces_consistent.specs.interface_soundness.interfaces.Declared.{with_declared, Declares}
use Rattle.units_well_formed.proofs.imported_types_agree_proofs.consistent_types.Arrived.{key_stays}
use Rattle.programs_well_formed.proofs.programs.Faithful.{Stay}

-- ---- names

pub not_same : (one other : List ℕ) → (one ≡ other → ⊥) → same_bytes one other ≡ false
not_same one other apart = by (same_bytes one other) refl
  where
    by : (b : Bool) → same_bytes one other ≡ b → b ≡ false
    by true e = absurd (apart (same_text one other (sym e)))
    by false e = refl

-- ---- keys stay

pub stay_on : (one two three : Table) → Stay one two → Stay two three → Stay one three
stay_on one two three h k place key at = k place key (h place key at)

-- with a used unit
pub use_stays : (have : List Interface) (g : Environment) (name : List ℕ) → IsKeyed g.types → (is_overlay name ≡ false → (i : Interface) → interface_named have name ≡ Some i → IsKeyed i.types)
    → Stay g.types (with_use have g name).types
use_stays have g name keyed own = by (is_overlay name) refl (interface_named have name) refl
  where
    by : (b : Bool) → is_overlay name ≡ b → (found : Option Interface) → interface_named have name ≡ found → Stay g.types (cond b (with_overlay g) (with_found g found)).types
    by true is found at = λ place key e. e
    by false is None at = λ place key e. e
    by false is (Some i) at = λ place key e. key_stays g.types i.types keyed (own is i at) place key e

-- what the block of the unit shows stays
pub use_items : (have : List Interface) (g : Environment) (name : List ℕ) → items_of (with_use have g name) ≡ items_of g
use_items have g name = by (is_overlay name) (interface_named have name)
  where
    by : (b : Bool) (found : Option Interface) → items_of (cond b (with_overlay g) (with_found g found)) ≡ items_of g
    by true found = refl
    by false None = refl
    by false (Some i) = refl

-- ---- what a unit declares

declared_types : (unit : List ℕ) (table : Table) (types : List TypeDef) → (with_declared unit table types).types ≡ table.types ++ types
declared_types unit table [] = sym (append-nil table.types)
declared_types unit table (one ∷ rest) = declared_types unit (with_type table unit (count_of table unit) one) rest ∙ append_assoc table.types (one ∷ []) rest

pub declares_more : (unit : List ℕ) (table after : Table) (d : Declares unit table after) → after.types ≡ table.types ++ d.types
declares_more unit table after d = ap (λ (one : Table). one.types) d.is ∙ declared_types unit table d.types

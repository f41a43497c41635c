-- Used units bring types whose methods are as they were declared.
use Rattle.std.proofs.Common.{◌≡◌, refl, ℕ, Bool, true, false, cond, List, [], ◌∷◌, Option, Some, None, sym, subst}
use Rattle.units_well_formed.specs.syntax_tree.declared.identifier.Identifier.{Identifier}
use Rattle.units_well_formed.specs.scopes.Environment.{Environment}
use Rattle.units_well_formed.specs.unit_interface.declared.interfaces.Interface.{Interface}
use Rattle.units_well_formed.specs.unit_interface.Resolve.{is_overlay, interface_named, with_overlay, with_found, with_use, with_uses}
use Rattle.shared_types_agree.specs.programs.Below.{all_used}
use Rattle.shared_types_agree.proofs.programs.Below.{IsUse, AreUses}
use Rattle.shared_types_agree.proofs.method_numbers.Tables.{AreSo, types_so}

abbrev pub IsSoInterface : Interface → Type 0
IsSoInterface i = AreSo i.types.types

use_so : (have : List Interface) (g : Environment) (word : List ℕ) → IsUse IsSoInterface have word → AreSo g.types.types → AreSo (with_use have g word).types.types
use_so have g word own h = by (is_overlay word) refl (interface_named have word) refl
  where
    by : (b : Bool) → is_overlay word ≡ b → (found : Option Interface) → interface_named have word ≡ found → AreSo (cond b (with_overlay g) (with_found g found)).types.types
    by true is found at = h
    by false is None at = h
    by false is (Some i) at = types_so g.types i.types h (own is i at)

pub uses_so : (have : List Interface) (g : Environment) (words : List (List ℕ)) → AreUses IsSoInterface have words → AreSo g.types.types → AreSo (with_uses have g words).types.types
uses_so have g [] own h = h
uses_so have g (word ∷ words) own h = uses_so have (with_use have g word) words own.1 (use_so have g word own.0 h)

pub used_so : (have : List Interface) → ((word : List ℕ) → IsUse IsSoInterface have word) → (g : Environment) (uses : List Identifier) (h : Environment) → (all_used have g uses).holds h
    → AreSo g.types.types → AreSo h.types.types
used_so have own g [] h e so = subst (λ (x : Environment). AreSo x.types.types) (sym e) so
used_so have own g (one ∷ rest) h e so =
    used_so have own e.part rest h e.made (subst (λ (x : Environment). AreSo x.types.types) (sym e.holds.made) (use_so have g one.name (own one.name) so))

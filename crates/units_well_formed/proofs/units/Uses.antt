-- Scopes over used units, step by step.
use Rattle.std.proofs.Common.{◌≡◌, ℕ, Bool, true, cond, List, [], ◌∷◌, Some, drop, sym, subst, ap, ◌∙◌}
use Rattle.std.specs.Prelude.{slice_get}
use Rattle.declarations_well_formed.specs.syntax_tree.declared.identifier.Identifier.{Identifier}
use Rattle.declarations_well_formed.specs.scopes.Predeclared.{first}
use Rattle.declarations_well_formed.specs.scopes.Environment.{Environment}
use Rattle.declarations_well_formed.specs.unit_interface.declared.interfaces.Interface.{Interface}
use Rattle.declarations_well_formed.specs.unit_interface.Resolve.{overlay, is_overlay, interface_named, with_found, with_overlay, with_use, with_uses, resolved}
use Rattle.declarations_well_formed.specs.syntax_tree.declared.source_tree.source.Tree.{Tree}
use Rattle.declarations_well_formed.specs.syntax_tree.declared.source_tree.source.Tree.TheVariants as t
use Rattle.declarations_well_formed.specs.tp_check_decl.routines.Drafts.{Drafted, knowing}
use Rattle.declarations_well_formed.specs.tp_check_decl.Interfaces.{further_used}
use Rattle.declarations_well_formed.specs.tp_check_decl.Programs.{empty_draft}
use Rattle.units_well_formed.specs.parts.Below.{scope_of, IsRead}
use Rattle.declarations_well_formed.specs.constants.Laws.{StayConstants}
use Rattle.units_well_formed.specs.units.Begun.{IsBegun, IsJoined, EachUse, further_uses, UsesKeep, FurtherKeep}
use Rattle.units_well_formed.specs.units.Laws.{AreOverlay}
use Rattle.units_well_formed.proofs.units.Bringing.{brought_draft, brought_begun}
use Rattle.units_well_formed.proofs.units.Overlay.{overlay_brings}
use Rattle.units_well_formed.proofs.units.Predeclared.{first_begun}

module _ (stay : StayConstants) (name : List ℕ) (other : name ≡ overlay → ⊥) (have : List Interface) where
  -- OVERLAY alone is used
  overlay_is : (g : Environment) (word : List ℕ) → is_overlay word ≡ true → with_use have g word ≡ with_overlay g
  overlay_is g word is = ap (λ (b : Bool). cond b (with_overlay g) (with_found g (interface_named have word))) is

  use_begun : (g : Environment) (word : List ℕ) → is_overlay word ≡ true → IsBegun name g → IsBegun name (with_use have g word)
  use_begun g word is h =
      subst (λ (e : Environment). IsBegun name e) (sym (overlay_is g word is)) (brought_begun stay name g (with_overlay g) h (overlay_brings name g (scope_of (empty_draft g) []) h.known h.named other h.table))

  uses_begun : (g : Environment) (words : List (List ℕ)) → AreOverlay words → IsBegun name g → IsBegun name (with_uses have g words)
  uses_begun g [] are h = h
  uses_begun g (word ∷ rest) are h = uses_begun (with_use have g word) rest are.1 (use_begun g word are.0 h)

  pub bare_begun : (words : List (List ℕ)) → AreOverlay words → IsBegun name (resolved have name words)
  bare_begun words are = uses_begun (first name) words are (first_begun name)

  pub overlay_joins : (one : Identifier) → is_overlay one.name ≡ true → (d : Drafted) (h : Environment) → IsRead d [] → slice_get d.scope.units 0 ≡ Some name → (further_used have d.scope one).holds h
      → IsJoined d (knowing d h)
  overlay_joins one is d h r named k =
      subst (λ (e : Environment). IsJoined d (knowing d e)) (sym (k.made ∙ overlay_is d.scope one.name is))
      (brought_draft stay name d (with_overlay d.scope) r named (overlay_brings name d.scope (scope_of d []) r.known named other r.table))

  uses_keep : (d : Drafted) (uses : List Identifier) → EachUse (λ (one : Identifier). is_overlay one.name ≡ true) uses → IsRead d [] → slice_get d.scope.units 0 ≡ Some name → UsesKeep have d uses
  uses_keep d [] are r named = tt
  uses_keep d (one ∷ rest) are r named = λ h k room.
      let step = overlay_joins one are.0 d h r named k in
      (step, uses_keep (knowing d h) rest are.1 step.read (step.named ∙ named))

  pub bare_keep : (g : Environment) (tree : Tree) → EachUse (λ (one : Identifier). is_overlay one.name ≡ true) (further_uses tree) → FurtherKeep name g have tree
  bare_keep g (t.Program heading uses all body) are = tt
  bare_keep g (t.Unit here own uses outer interface all body) are = λ d k r named. uses_keep d (drop outer uses.items) are r named

-- Checked units are well formed.
use Rattle.std.specs.Prelude.{◌≡◌, ℕ, true, List, [], ◌∷◌, Some, slice_get}
use Rattle.declarations_well_formed.specs.syntax_tree.declared.identifier.Identifier.{Identifier}
use Rattle.declarations_well_formed.specs.tp_lexer.declared.source_directives.collected.Directives.{Directives}
use Rattle.declarations_well_formed.specs.syntax_tree.declared.source_tree.source.Tree.{Tree}
use Rattle.declarations_well_formed.specs.syntax_tree.declared.source_tree.source.Tree.TheVariants as t
use Rattle.declarations_well_formed.specs.typed_tree.declared.units.Unit as typed
use Rattle.declarations_well_formed.specs.well_formed.WellFormed.{IsWellFormed}
use Rattle.declarations_well_formed.specs.scopes.Predeclared.{first}
use Rattle.declarations_well_formed.specs.scopes.Environment.{Environment}
use Rattle.declarations_well_formed.specs.unit_interface.declared.interfaces.Interface.{Interface}
use Rattle.declarations_well_formed.specs.unit_interface.Resolve.{overlay, is_overlay, resolved}
use Rattle.declarations_well_formed.specs.tp_check_decl.routines.Drafts.{Drafted, knowing}
use Rattle.declarations_well_formed.specs.tp_check_decl.Units.{Whole, view_unit}
use Rattle.declarations_well_formed.specs.tp_check_decl.Programs.{empty_draft}
use Rattle.declarations_well_formed.specs.tp_check_decl.Checked.{IsTypedAs}
use Rattle.units_well_formed.specs.parts.Below.{others_of, scope_of, IsRead}
use Rattle.units_well_formed.specs.units.Begun.{IsBegun, IsJoined, EachUse, further_uses, FurtherKeep, IsSource, IsRoomy}
use Rattle.units_well_formed.specs.units.Bringing.{Brings}

-- a unit that is well formed where other units have what a scope tells of them
pub record IsFormedIn (h : Environment) (unit : typed.Unit) : Type 0 where
  pub formed : IsWellFormed unit
  pub others : formed.others ≡ others_of h

-- the scope at the end of a source, by how the source is typed
abbrev pub end_scope : (name : List ℕ) (says : Directives) (g : Environment) (have : List Interface) (tree : Tree) (unit : Whole) → IsTypedAs name says g have tree unit → Environment
end_scope name says g have (t.Program heading uses all body) unit h = h.made.made.part.scope
end_scope name says g have (t.Unit here own uses outer interface all body) unit h = h.made.made.made.part.draft.scope

-- Over a scope whose names are there, each source that is typed is a unit that is well formed where other units have what the scope at the
-- source's end tells of them, if the units that its implementation part uses keep what is known behind its interface part.
abbrev pub SourceLaw : Type 0
SourceLaw = (name : List ℕ) (says : Directives) (g : Environment) (have : List Interface) (tree : Tree) (unit : typed.Unit) → FurtherKeep name g have tree → IsBegun name g
    → IsSource tree → IsRoomy unit → (typed : IsTypedAs name says g have tree (view_unit unit)) → IsFormedIn (end_scope name says g have tree (view_unit unit) typed) unit

abbrev pub AreOverlay : List (List ℕ) → Type 0
AreOverlay [] = Unit {0}
AreOverlay (one ∷ rest) = (is_overlay one ≡ true) × AreOverlay rest

-- Where no unit is used but OVERLAY, nothing is asked of the scope. (The file of no source has that name.)
abbrev pub BareLaw : Type 0
BareLaw = (name : List ℕ) (says : Directives) (have : List Interface) (uses : List (List ℕ)) (tree : Tree) (unit : typed.Unit) → (name ≡ overlay → ⊥) → AreOverlay uses
    → EachUse (λ (one : Identifier). is_overlay one.name ≡ true) (further_uses tree) → IsSource tree → IsRoomy unit → (typed : IsTypedAs name says (resolved have name uses) have tree (view_unit unit))
    → IsFormedIn (end_scope name says (resolved have name uses) have tree (view_unit unit) typed) unit

-- What a used unit brings, if it is there, keeps what is known: where a source begins, and behind its interface part.
pub record UsesLaws (name : List ℕ) : Type 0 where
  pub alone : IsBegun name (first name)
  pub begun : (g h : Environment) → IsBegun name g → Brings name g h (scope_of (empty_draft g) []) → IsBegun name h
  pub joined : (d : Drafted) (h : Environment) → IsRead d [] → slice_get d.scope.units 0 ≡ Some name → Brings name d.scope h (scope_of d []) → IsJoined d (knowing d h)

abbrev pub UsedLaw : Type 0
UsedLaw = (name : List ℕ) → UsesLaws name

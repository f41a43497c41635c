-- How what is known changes with blocks, names and declarations, and what it gives.
use Rattle.std.specs.Prelude.{◌≡◌, ℕ, ◌+◌, ◌<◌, ◌^◌, List, length, Option, Some, slice_get}
use Rattle.tp_check_stmt.specs.type_layout.Table.{Table}
use Rattle.tp_check_stmt.specs.type_layout.declared.definitions.TypeId.{TypeId}
use Rattle.tp_check_stmt.specs.typed_tree.declared.units.Routine.{Routine}
use Rattle.rules_well_formed.specs.well_formed.Scopes.{Scope}
use Rattle.tp_check_stmt.specs.scopes.declared.entries.Entry.{Entry}
use Rattle.tp_check_stmt.specs.scopes.declared.entries.BlockKind.TheVariants as block
use Rattle.tp_check_stmt.specs.scopes.Environment.{Environment, with_name, with_block, without_block}
use Rattle.rules_well_formed.specs.nodes.Tables.{IsSound}
use Rattle.rules_well_formed.specs.methods.Declared.{HasMethods}
use Rattle.rules_well_formed.specs.well_formed.weakening.Weakening.{Weakens}
use Rattle.bodies_well_formed.specs.statements.Within.{AgreesWithin}
use Rattle.bodies_well_formed.specs.other_units.Known.{open_in, first_in, IsEntry, IsPlaced, AreKnown, scope_over}
use Rattle.bodies_well_formed.specs.other_units.Growing.{Extends}

-- with other types
abbrev pub typing : Environment → Table → Environment
typing g types = record g { types = types }

-- what holds where all that is known is there
pub record FollowsIn (g : Environment) (s : Scope) : Type 0 where
  -- expressions and statements of the innermost block may rely on it
  pub agrees : AgreesWithin g (scope_over s (open_in g))
  -- a name that is there may be put into the innermost block
  pub name : (name : List ℕ) (one : Entry) → IsEntry s (open_in g) one → AreKnown (with_name g name one) s
  -- the block of a routine may be opened that is declared in the innermost one
  pub routine : (number : ℕ) (owner : Option TypeId) (one : Routine) → slice_get s.routines number ≡ Some one → one.outer ≡ first_in (open_in g)
      → length (open_in g) + 1 < 2 ^ 31 → AreKnown (with_block g (block.Routine number owner)) s
  -- and the innermost block may be closed
  pub closed : AreKnown (without_block g) s
  -- declarations may follow
  pub further : (types : Table) (t : Scope) → Extends s t → HasMethods (typing g types) t → IsSound t.types
      → ((number : ℕ) (one : Routine) → slice_get t.routines number ≡ Some one → IsPlaced one) → AreKnown (typing g types) t
  -- of which the innermost block may name as much, and more
  pub wider : (t : Scope) → Extends s t → Weakens (scope_over s (open_in g)) (scope_over t (open_in g))

abbrev pub NameLaw : Type 0
NameLaw = (g : Environment) (s : Scope) → AreKnown g s → FollowsIn g s

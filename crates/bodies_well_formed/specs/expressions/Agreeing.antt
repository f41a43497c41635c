-- When what is known where some blocks are open agrees with what trees may name there.
use Rattle.std.specs.Prelude.{◌≡◌, ℕ, List, Some}
use Rattle.tp_check_stmt.specs.type_layout.declared.definitions.TypeId.{TypeId}
use Rattle.tp_check_stmt.specs.typed_tree.type_fits.Fits.{definition, IsValue}
use Rattle.rules_well_formed.specs.well_formed.Scopes.{Scope, HasVariable}
use Rattle.rules_well_formed.specs.well_formed.Typed.{HasPlace}
use Rattle.tp_check_stmt.specs.scopes.declared.entries.Entry.{Entry}
use Rattle.tp_check_stmt.specs.scopes.declared.entries.Entry.TheVariants as entry
use Rattle.tp_check_stmt.specs.scopes.declared.entries.BlockKind.TheVariants as block
use Rattle.tp_check_stmt.specs.scopes.Environment.{Environment, named, find, kind_of, found_in}
use Rattle.tp_check_stmt.specs.tp_check_expr.Names.{variable}
use Rattle.tp_check_stmt.specs.tp_check_expr.Owners.{held}
use Rattle.rules_well_formed.specs.nodes.Tables.{IsInTable, IsHeaderIn, IsSound}
use Rattle.rules_well_formed.specs.calls.Laws.{IsDeclared}
use Rattle.rules_well_formed.specs.methods.Declared.{HasMethods}
use Rattle.rules_well_formed.specs.allocations.Laws.{MayBeValue}

-- What a name means is there: a constant is a value of its type, a variable is one at its level, and a routine is declared with its
-- header, and is far and outermost where it may stand as a value.
abbrev pub IsKnown : Environment → Scope → Entry → Type 0
IsKnown g s (entry.Const ty v) = IsValue s.types v (definition s.types ty)
IsKnown g s (entry.Ty ty) = IsInTable s.types ty
IsKnown g s (entry.Var unit level number ty) = HasVariable s (variable g unit level number) ty
IsKnown g s (entry.Code routine level header far) = IsDeclared s routine header × IsHeaderIn s.types header × MayBeValue s routine level header far
IsKnown g s (entry.Std number) = Unit {0}

-- The types are the same and sound, methods are routines, each name means what is there, also where a block inside hides it, and what
-- an open `with` holds is a place.
pub record Agrees (g : Environment) (s : Scope) : Type 0 where
  pub has : HasMethods g s
  pub sound : IsSound s.types
  pub known : (name : List ℕ) (number : ℕ) (one : Entry) → find g name ≡ Some (named number one) → IsKnown g s one
  pub inside : (number : ℕ) (name : List ℕ) (one : Entry) → found_in g number name ≡ Some one → IsKnown g s one
  pub held : (number : ℕ) (ty : TypeId) → kind_of g number ≡ Some (block.With ty) → HasPlace s (held g number) ty

-- How often a `for` loop turns whose body leaves the loop alone, where range checks don't hold.
use Rattle.std.specs.Prelude.{◌≡◌, ℕ, ◌+◌, ◌≤◌, true, false, ℤ, pos, ◌+ℤ◌, ◌<ℤ◌, Some, Ok}
use Rattle.common_values.specs.behaviour.Seen.{Going}
use Rattle.type_layout.specs.declared.definitions.TypeId.{TypeId}
use Rattle.type_layout.specs.declared.definitions.Host.{Host}
use Rattle.typed_tree.specs.declared.expressions.Variable.{Variable}
use Rattle.typed_tree.specs.declared.units.Program.{Program}
use Rattle.typed_tree.specs.Expressions.{Expression}
use Rattle.typed_tree.specs.Statements.{Statement, For}
use Rattle.common_values.specs.Ordinals.{IsValueOf}
use Rattle.typed_tree.specs.type_fits.Fits.{stored_as}
use Rattle.tp_meaning.specs.Trees.{Tree}
use Rattle.tp_meaning.specs.Shapes.{stored_among}
use Rattle.tp_meaning.specs.Store.{Store, tree_at}
use Rattle.tp_meaning.specs.Programs.{definition}
use Rattle.tp_meaning.specs.Outcomes.{State, Done, Over}
use Rattle.tp_meaning.specs.Activations.{Reached, Activation, variable_at, number_in}
use Rattle.tp_meaning.specs.Calls.{Next}
use Rattle.tp_meaning.specs.Statements.{number, statement}
use Rattle.tp_meaning.specs.Meaning.{run}

-- The variable has a place of its own, where numbers of a type are stored.
pub record IsCounter (program : Program) (f : Activation) (variable : Variable) (at : Reached) (host : Host) : Type 0 where
  pub place : (store : Store) → variable_at program f variable store ≡ Ok at
  pub stored : stored_as (definition at.sort) ≡ Some host

-- The body comes to its end, spends no turn, and leaves the variable as it was.
pub record LeavesAlone (program : Program) (f : Activation) (at : Reached) (body : Statement) : Type 0 where
  pub ends : (s : State) (z : ℤ) → number_in at s.store ≡ Ok z
      → (t : State) × (statement program (run program) f body s ≡ Done Next t) × (number_in at t.store ≡ Ok z) × (t.turns ≡ s.turns)

-- What the bounds of a loop are, as it begins in a state where the variable's cell is there.
pub record HasBounds (program : Program) (f : Activation) (at : Reached) (from to : Expression) (first last : ℤ) (s : State) : Type 0 where
  pub first_is : number program (run program) f from s ≡ Done first s
  pub last_is : number program (run program) f to s ≡ Done last s
  pub cell : Tree
  pub there : tree_at s.store at.spot ≡ Ok cell

-- a loop that ends, so many turns later; a loop for which there are too few
pub record EndsAfter (program : Program) (f : Activation) (loop : Statement) (s : State) (turns : ℕ) : Type 0 where
  pub end : State
  pub is : statement program (run program) f loop s ≡ Done Next end
  pub spent : end.turns + turns ≡ s.turns

pub record GoesOn (program : Program) (f : Activation) (loop : Statement) (s : State) : Type 0 where
  pub end : State
  pub is : statement program (run program) f loop s ≡ Over Going end

-- From `first` up to `last`, or down to it, there are n + 1 turns where n lies between them. Where `last` was passed there is none,
-- and nothing changes: the variable is what it was.
pub record ForLaws (program : Program) (f : Activation) (variable : Variable) (ty : TypeId) (body : Statement) (at : Reached) (host : Host) : Type 0 where
  pub up : (first last : ℤ) (n : ℕ) (from to : Expression) (s : State) → HasBounds program f at from to first last s
      → IsValueOf (stored_among host) first → IsValueOf (stored_among host) last → last ≡ first +ℤ pos n → n + 1 ≤ s.turns
      → EndsAfter program f (For variable ty from to false false body) s (n + 1)
  pub down : (first last : ℤ) (n : ℕ) (from to : Expression) (s : State) → HasBounds program f at from to first last s
      → IsValueOf (stored_among host) first → IsValueOf (stored_among host) last → first ≡ last +ℤ pos n → n + 1 ≤ s.turns
      → EndsAfter program f (For variable ty from to true false body) s (n + 1)
  pub up_on : (first last : ℤ) (n : ℕ) (from to : Expression) (s : State) → HasBounds program f at from to first last s
      → IsValueOf (stored_among host) first → IsValueOf (stored_among host) last → last ≡ first +ℤ pos n → s.turns ≤ n
      → GoesOn program f (For variable ty from to false false body) s
  pub down_on : (first last : ℤ) (n : ℕ) (from to : Expression) (s : State) → HasBounds program f at from to first last s
      → IsValueOf (stored_among host) first → IsValueOf (stored_among host) last → first ≡ last +ℤ pos n → s.turns ≤ n
      → GoesOn program f (For variable ty from to true false body) s
  pub up_none : (first last : ℤ) (from to : Expression) (s : State) → HasBounds program f at from to first last s
      → last <ℤ first → statement program (run program) f (For variable ty from to false false body) s ≡ Done Next s
  pub down_none : (first last : ℤ) (from to : Expression) (s : State) → HasBounds program f at from to first last s
      → first <ℤ last → statement program (run program) f (For variable ty from to true false body) s ≡ Done Next s

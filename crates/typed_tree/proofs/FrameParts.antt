-- A frame holds its parts, and the need of a body is enough for it.
use Rattle.std.proofs.Common.{◌≤◌, ◌+◌, ℕ, cond, Bool, true, false, List, arith}
use Rattle.std.specs.Option.{is_some}
use Rattle.type_layout.specs.declared.definitions.TypeDef.{TypeDef}
use Rattle.typed_tree.specs.declared.units.Routine.{Routine}
use Rattle.typed_tree.specs.Statements.{view_stmt}
use Rattle.typed_tree.specs.Frames.{HoldsItsParts, StaysWithinNeed, argument_bytes, local_bytes, need_of}
use Rattle.typed_tree.proofs.Fitting.{fits_statement}

least_links : (nested far : Bool) → 4 ≤ cond nested 2 0 + (cond far 4 2 + 2)
least_links true true = omega arith
least_links true false = omega arith
least_links false true = omega arith
least_links false false = omega arith

pub holds_its_parts : (types : List TypeDef) (routine : Routine) → HoldsItsParts types routine
holds_its_parts types routine = record { sum = omega arith; links = least_links (is_some routine.outer) routine.far }

pub stays_within_need : (types : List TypeDef) (routine : Routine) → StaysWithinNeed types routine
stays_within_need types routine = fits_statement types (need_of types routine) 0 (view_stmt routine.body) (omega arith)

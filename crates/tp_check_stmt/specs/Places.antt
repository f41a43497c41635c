-- Places that expressions load from, and what must stand for one.
use Rattle.std.specs.Prelude.{List, Option, Some, None}
use Rattle.type_layout.specs.declared.definitions.TypeId.{TypeId}
use Rattle.typed_tree.specs.Expressions as tree
use Rattle.typed_tree.specs.Expressions.{Expression, Load, view_place}
use Rattle.typing_rules.specs.declared.faults.Fault.{Fault}
use Rattle.typing_rules.specs.Judgements.{Judgement, makes, refuses}
use Rattle.tp_check_stmt.specs.declared.places.Target.{Target}

-- a place and the type of what it holds
pub record Spot : Type 0 where
  pub ty : TypeId
  pub at : tree.Place

abbrev pub view_target : Target → Spot
view_target one = record { ty = one.ty; at = view_place one.at }

-- the place that an expression loads from, if it is a variable or a part of one
abbrev pub spot_of : Expression → Option Spot
spot_of (Load ty at) = Some (record { ty = ty; at = at })
spot_of _ = None

-- what is there, or a fault
abbrev pub present : {C : Type 0} → Fault → Option C → Judgement C
present fault None = refuses fault
present fault (Some c) = makes c

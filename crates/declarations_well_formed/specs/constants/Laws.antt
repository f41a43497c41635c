-- Constant expressions have values of their types.
use Rattle.std.specs.Prelude.{List, ◌++◌}
use Rattle.bodies_well_formed.specs.type_layout.declared.definitions.TypeId.{TypeId}
use Rattle.bodies_well_formed.specs.type_layout.declared.definitions.TypeDef.{TypeDef}
use Rattle.bodies_well_formed.specs.typed_tree.declared.expressions.Value.{Value}
use Rattle.bodies_well_formed.specs.scopes.Environment.{Environment}
use Rattle.bodies_well_formed.specs.syntax_tree.expression_tree.Trees.{Tree}
use Rattle.bodies_well_formed.specs.constant_checker.declared.constant_expressions.constants.Constant.{Constant}
use Rattle.bodies_well_formed.specs.constant_checker.constant_expressions.Constants.{judged}
use Rattle.bodies_well_formed.specs.rules_well_formed.nodes.Tables.{IsSound}
use Rattle.bodies_well_formed.specs.expressions.Literals.{AreLiterals}
use Rattle.declarations_well_formed.specs.constants.Whole.{IsConstantOf, HasConstants}

abbrev pub GivesValues : Type 0
GivesValues = (g : Environment) → IsSound g.types.types → HasConstants g → (tree : Tree) (c : Constant) → AreLiterals tree → (judged g tree).holds c → IsConstantOf g.types.types c.ty c.value

-- a constant stays one as types follow
abbrev pub StayConstants : Type 0
StayConstants = (types more : List TypeDef) → IsSound types → (ty : TypeId) (v : Value) → IsConstantOf types ty v → IsConstantOf (types ++ more) ty v

pub record ConstantLaw : Type 0 where
  pub given : GivesValues
  pub kept : StayConstants

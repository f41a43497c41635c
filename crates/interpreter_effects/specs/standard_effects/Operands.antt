-- The arguments of standard routines in src/ as those of the meaning.
use Rattle.std.specs.Prelude.{List, Vec, map}
use Rattle.std.specs.Global.{Global}
use Rattle.interpreter_effects.specs.declared.standard_effects.arguments.Operand.{Operand}
use Rattle.interpreter_effects.specs.declared.standard_effects.arguments.Operand.TheVariants as operand
use Rattle.interpreter_store.specs.cell_store.Views.{view_value}
use Rattle.interpreter_store.specs.typed_cells.Sorts.{view_sort, view_reached}
use Rattle.tp_meaning.specs.Standard.{Operand as PureOperand, Given, Named}

abbrev pub view_operand : Operand → PureOperand
view_operand (operand.Given sort value) = Given (view_sort sort) (view_value value)
view_operand (operand.Named at) = Named (view_reached at)

abbrev pub view_operands : Vec Operand Global → List PureOperand
view_operands args = map view_operand args.items

-- The operators that lexemes are.
use Rattle.std.specs.Prelude.{Option, Some, None}
use Rattle.pascal_grammar.specs.declared.kind.Kind.{Kind}
use Rattle.pascal_grammar.specs.declared.kind.Kind.TheVariants as k
use Rattle.pascal_grammar.specs.declared.operator.Relator.{Relator}
use Rattle.pascal_grammar.specs.declared.operator.Relator.TheVariants as relator
use Rattle.pascal_grammar.specs.declared.operator.Adder.{Adder}
use Rattle.pascal_grammar.specs.declared.operator.Adder.TheVariants as adder
use Rattle.pascal_grammar.specs.declared.operator.Multiplier.{Multiplier}
use Rattle.pascal_grammar.specs.declared.operator.Multiplier.TheVariants as multiplier
use Rattle.pascal_grammar.specs.declared.operator.Sign.{Sign}
use Rattle.pascal_grammar.specs.declared.operator.Sign.TheVariants as sign
use Rattle.pascal_grammar.specs.declared.operator.Direction.{Direction}
use Rattle.pascal_grammar.specs.declared.operator.Direction.TheVariants as direction

abbrev pub relator_of : Kind → Option Relator
relator_of k.Equal = Some relator.Equal
relator_of k.Unequal = Some relator.Unequal
relator_of k.Less = Some relator.Less
relator_of k.Greater = Some relator.Greater
relator_of k.AtMost = Some relator.AtMost
relator_of k.AtLeast = Some relator.AtLeast
relator_of k.In = Some relator.In
relator_of x = None

abbrev pub adder_of : Kind → Option Adder
adder_of k.Plus = Some adder.Plus
adder_of k.Minus = Some adder.Minus
adder_of k.Or = Some adder.Or
adder_of k.Xor = Some adder.Xor
adder_of x = None

abbrev pub multiplier_of : Kind → Option Multiplier
multiplier_of k.Times = Some multiplier.Times
multiplier_of k.Div = Some multiplier.Div
multiplier_of k.Mod = Some multiplier.Mod
multiplier_of k.And = Some multiplier.And
multiplier_of k.Shl = Some multiplier.Shl
multiplier_of k.Shr = Some multiplier.Shr
multiplier_of x = None

abbrev pub sign_of : Kind → Option Sign
sign_of k.Plus = Some sign.Plus
sign_of k.Minus = Some sign.Minus
sign_of x = None

abbrev pub direction_of : Kind → Option Direction
direction_of k.To = Some direction.Up
direction_of k.Downto = Some direction.Down
direction_of x = None

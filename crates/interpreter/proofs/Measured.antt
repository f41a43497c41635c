-- A standard routine with two arguments or more is not Length.
use Rattle.std.proofs.Common.{◌≡◌, ℕ, ◌≤◌, List, [], ◌∷◌, length, refl, arith}
use Rattle.typed_tree.specs.declared.units.Program.{Program}
use Rattle.typed_tree.specs.declared.expressions.Arg.{Arg}
use Rattle.typed_tree.specs.declared.expressions.Arg.TheVariants as arg
use Rattle.typed_tree.specs.Expressions.{Expression, Arguments, Load, view_expr, view_arg, view_args, ByValue}
use Rattle.tp_meaning.specs.Trees.{Value}
use Rattle.tp_meaning.specs.Outcomes.{Does}
use Rattle.tp_meaning.specs.Activations.{Activation}
use Rattle.tp_meaning.specs.Calls.{Runs}
use Rattle.tp_meaning.specs.Expressions.{measured}

by_value : (p : Program) (again : Runs) (f : Activation) (n : ℕ) (e : Expression) (next : Arg) (rest : Arguments) (other : Does Value) → measured p again f n (ByValue e (view_arg next rest)) other ≡ other
by_value p again f n (Load ty from) (arg.Value v) rest other = refl
by_value p again f n (Load ty from) (arg.Place at) rest other = refl
by_value p again f n e next rest other = refl

-- Length has one argument
pub measured_more : (p : Program) (again : Runs) (f : Activation) (n : ℕ) (args : List Arg) (other : Does Value) → 2 ≤ length args → measured p again f n (view_args args) other ≡ other
measured_more p again f n [] other l = absurd (omega (arith, l))
measured_more p again f n (one ∷ []) other l = absurd (omega (arith, l))
measured_more p again f n (arg.Value e ∷ next ∷ rest) other l = by_value p again f n (view_expr e) next (view_args rest) other
measured_more p again f n (arg.Place at ∷ next ∷ rest) other l = refl

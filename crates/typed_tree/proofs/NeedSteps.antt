-- One step of the loops over arguments and elements.
use Rattle.std.proofs.Common.{◌≡◌, ℕ, ◌+◌, max, List, ◌∷◌, arith, ap}
use Rattle.type_layout.specs.declared.definitions.TypeDef.{TypeDef}
use Rattle.typed_tree.specs.declared.expressions.Arg.{Arg}
use Rattle.typed_tree.specs.declared.expressions.Arg.TheVariants as arg
use Rattle.typed_tree.specs.Expressions.{Arguments, NoArguments, ByValue, ByPlace, view_expr, view_args}
use Rattle.typed_tree.specs.Slots.{capped, slot_of}
use Rattle.typed_tree.specs.Needs.{arguments_need, argument_need, argument_slot}

-- slots that are capped before the last argument are capped at the end
arguments_need-capped : (types : List TypeDef) (before result : ℕ) (args : Arguments)
    → capped (arguments_need types (capped before) result args) ≡ capped (arguments_need types before result args)
arguments_need-capped types before result NoArguments = omega arith
arguments_need-capped types before result (ByValue value rest) =
    let slot = slot_of types value in
    let a = arguments_need-capped types (before + slot) result rest in
    let b = arguments_need-capped types (capped before + slot) result rest in
    let same : capped (capped before + slot) ≡ capped (before + slot) = omega arith in
    let c = ap (λ (n : ℕ). capped (arguments_need types n result rest)) same in
    omega arith
arguments_need-capped types before result (ByPlace at rest) =
    let a = arguments_need-capped types (before + 4) result rest in
    let b = arguments_need-capped types (capped before + 4) result rest in
    let same : capped (capped before + 4) ≡ capped (before + 4) = omega arith in
    let c = ap (λ (n : ℕ). capped (arguments_need types n result rest)) same in
    omega arith

pub arguments_need-step : (types : List TypeDef) (before result : ℕ) (one : Arg) (rest : List Arg)
    → capped (arguments_need types before result (view_args (one ∷ rest)))
    ≡ max (capped (before + capped (argument_need types one)))
    (capped (arguments_need types (capped (before + argument_slot types one)) result (view_args rest)))
arguments_need-step types before result (arg.Value value) rest =
    let a = arguments_need-capped types (before + slot_of types (view_expr value)) result (view_args rest) in
    omega arith
arguments_need-step types before result (arg.Place at) rest =
    let a = arguments_need-capped types (before + 4) result (view_args rest) in
    omega arith

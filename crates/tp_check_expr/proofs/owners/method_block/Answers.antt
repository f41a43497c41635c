use Rattle.std.proofs.Common.{◌≡◌, ℕ, ◌+◌, Option, add-one, ap, sym, ◌∙◌}
use Rattle.scopes.specs.declared.entries.BlockKind.{BlockKind}
use Rattle.scopes.specs.Environment.{Environment, kind_of}
use Rattle.tp_check_expr.specs.Owners.{later_method, method_before}
use Rattle.tp_check_expr.proofs.owners.method_block.Goals as goal

-- one block more
step : (g : Environment) (n : ℕ) (before more : Option ℕ) (kind : Option BlockKind) → more ≡ later_method kind n before → kind ≡ kind_of g n → before ≡ method_before g n → more ≡ method_before g (n + 1)
step g n before more kind a b e =
    a ∙ ap (λ (k : Option BlockKind). later_method k n before) b ∙ ap (λ (m : Option ℕ). later_method (kind_of g n) n m) e ∙ sym (ap (λ (m : ℕ). method_before g m) (add-one n))

pub loop-number-preserved : goal.loop-number-preserved
loop-number-preserved c = step c.args.scope.now c.loop-number.number c.loop-number.method _ _ c.later_method-method.ensures c.block.ensures c.loop-number.invariant

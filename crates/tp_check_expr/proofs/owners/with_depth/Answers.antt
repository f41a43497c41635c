use Rattle.std.proofs.Common.{◌≡◌, ℕ, ◌+◌, suc, Option, add-one, ap, sym, ◌∙◌, arith}
use Rattle.scopes.specs.declared.entries.BlockKind.{BlockKind}
use Rattle.scopes.specs.Environment.{Environment, kind_of}
use Rattle.tp_check_expr.specs.Owners.{deeper_with, with_depth}
use Rattle.tp_check_expr.proofs.owners.with_depth.Goals as goal

-- one block more
step : (g : Environment) (n depth more : ℕ) (kind : Option BlockKind) → more ≡ deeper_with kind depth → kind ≡ kind_of g n → depth ≡ with_depth g n → more ≡ with_depth g (n + 1)
step g n depth more kind a b e =
    a ∙ ap (λ (k : Option BlockKind). deeper_with k depth) b ∙ ap (λ (m : ℕ). deeper_with (kind_of g n) m) e ∙ sym (ap (λ (m : ℕ). with_depth g m) (add-one n))

pub loop-number-preserved : goal.loop-number-preserved
loop-number-preserved c = record {
  counted = step c.args.scope.now c.loop-number.number c.loop-number.depth _ _ c.deeper_with-depth.ensures.value c.block.ensures c.loop-number.invariant.counted;
  few = omega (arith, c.deeper_with-depth.ensures.bound, c.loop-number.invariant.few);
}

use Rattle.std.proofs.Common.{◌∷◌, ◌++◌, [], sym, ap₂, ◌∙◌}
use Rattle.mz_file.proofs.ReadLaws.{fars_at-next}
use Rattle.mz_file.proofs.reading.read_fars.Goals as goal

pub loop-index-preserved : goal.loop-index-preserved
loop-index-preserved c =
    c.in_ok-push.ensures.ok ∙ ap₂ (λ fars far. fars ++ far ∷ []) c.loop-index.invariant c.far.ensures
    ∙ sym (fars_at-next c.args.bytes.now c.args.place c.loop-index.index)

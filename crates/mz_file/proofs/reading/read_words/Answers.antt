use Rattle.std.proofs.Common.{◌∷◌, ◌++◌, [], sym, ap₂, ◌∙◌}
use Rattle.mz_file.proofs.ReadLaws.{words_at-next}
use Rattle.mz_file.proofs.reading.read_words.Goals as goal

pub loop-index-preserved : goal.loop-index-preserved
loop-index-preserved c =
    c.in_ok-push.ensures.ok ∙ ap₂ (λ words word. words ++ word ∷ []) c.loop-index.invariant c.word.ensures
    ∙ sym (words_at-next c.args.bytes.now c.args.place c.loop-index.index)

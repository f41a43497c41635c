use Rattle.std.proofs.Common.{sym, ap, ◌∙◌}
use Rattle.tp_meaning.specs.Meaning.{seen_of}
use Rattle.interpreter.proofs.Starts.{start_is}
use Rattle.interpreter.proofs.program.mean.Goals as goal

pub returns : goal.returns
returns c =
    sym (c.in_ok-end.ensures _ c.start_all-over.ensures)
    ∙ ap seen_of (start_is c.args.program.now c.args.input.now c.args.turns _ _ _ _ c.as_slice.ensures c.in_ok-start_store.ensures c.new.ensures.items c.new-2.ensures.items)

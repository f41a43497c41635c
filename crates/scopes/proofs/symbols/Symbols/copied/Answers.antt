use Rattle.std.proofs.Common.{ap, sym, is_some, List, ℕ}
use Rattle.scopes.specs.declared.entries.Entry.{Entry}
use Rattle.scopes.proofs.BlockLaws.{take-next}
use Rattle.scopes.proofs.SymbolLaws.{new_at}
use Rattle.scopes.proofs.symbols.Symbols.copied.Goals as goal

pub enter_new-requires : goal.enter_new-requires
enter_new-requires c =
    let one : List ℕ × Entry = (c.at.result.0.now, c.at.result.1.now) in
    rw (c.copied.ensures, c.loop-place.invariant) (ap is_some (new_at c.args.self.now c.loop-place.place one c.len-place-end.ensures.once c.at.ensures))

pub loop-place-preserved : goal.loop-place-preserved
loop-place-preserved c =
    let one : List ℕ × Entry = (c.at.result.0.now, c.at.result.1.now) in
    rw (c.in_ok-enter_new.ensures, c.copied.ensures, c.in_ok-copied.ensures, c.loop-place.invariant)
    (sym (take-next c.args.self.now c.loop-place.place one c.at.ensures))

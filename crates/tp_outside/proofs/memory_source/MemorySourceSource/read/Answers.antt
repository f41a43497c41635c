use Rattle.std.proofs.Common.{◌≡◌, ℕ, ◌+◌, List, ◌++◌, Some, ap, sym, ◌∙◌, take, drop, subst, arith}
use Rattle.tp_outside.specs.Memory.{SourceState}
use Rattle.tp_outside.proofs.Known.{copied_then_rest}
use Rattle.tp_outside.proofs.memory_source.MemorySourceSource.read.Goals as goal

pub returns-clause-given : goal.returns-clause-given
returns-clause-given c =
    let bytes = c.deref.result.now in
    let count = c.min-count.result in
    let place = c.self.inside.place in
    let P : List ℕ → Type 0 = λ held. drop place held ≡ take count (c.copy_from_slice.new.self ++ drop count c.args.into.now) ++ drop (place + count) held in
    let split = copied_then_rest bytes c.args.into.now c.copy_from_slice.new.self place count c.copy_from_slice.ensures.after (omega (arith, c.min-count.ensures)) in
    ap Some (ap (λ (s : SourceState). s.remaining) (sym c.self.view_is) ∙ subst P c.deref.ensures.value split)

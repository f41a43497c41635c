use Rattle.std.proofs.Common.{◌≡◌, fold, take}
use Rattle.tp_lexer.specs.Places.{moved}
use Rattle.tp_lexer.proofs.place.moved_over.Given as goal

abbrev pub invariant-loop-byte : goal.invariant-loop-byte
invariant-loop-byte l = l.after ≡ fold moved l.fn.place (take l.byte-index l.bytes)

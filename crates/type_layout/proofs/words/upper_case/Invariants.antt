use Rattle.std.proofs.Common.{◌≡◌, take, map}
use Rattle.std.specs.Char.{to_ascii_uppercase}
use Rattle.type_layout.proofs.words.upper_case.Given as goal

abbrev pub invariant-loop-byte : goal.invariant-loop-byte
invariant-loop-byte l = l.bytes.items ≡ map to_ascii_uppercase (take l.byte-index l.word)

use Rattle.std.proofs.Common.{◌≡◌, ◌++◌, drop}
use Rattle.std.specs.List.{flat_map}
use Rattle.link_layout.specs.StubBytes.{entry_bytes}
use Rattle.link_layout.proofs.stub_bytes.push_stub.Given as goal

-- what is written and what is left are all
abbrev pub invariant-loop-offset : goal.invariant-loop-offset
invariant-loop-offset l = l.bytes ++ flat_map entry_bytes (drop l.offset-index l.offsets) ≡ l.initial.bytes ++ flat_map entry_bytes l.offsets

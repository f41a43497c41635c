use Rattle.std.proofs.Common.{◌≡◌, drop}
use Rattle.smart_linker.specs.Filled.{resolved}
use Rattle.smart_linker.proofs.filling.Placed.resolved.Given as goal

-- filling those that are left fills all
abbrev pub invariant-loop-one : goal.invariant-loop-one
invariant-loop-one l =
    resolved l.self.parts.units.now l.self.parts.kernel.now l.self.places.now l.own l.begin l.bytes.items (drop l.one-index l.refs) ≡ resolved l.self.parts.units.now l.self.parts.kernel.now l.self.places.now l.own l.begin l.given l.refs

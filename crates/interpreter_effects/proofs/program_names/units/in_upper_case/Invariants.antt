-- The bytes so far in upper case.
use Rattle.std.proofs.Common.{◌≡◌, map, take}
use Rattle.common_values.specs.Strings.{upper}
use Rattle.interpreter_effects.proofs.program_names.units.in_upper_case.Given as goal

abbrev pub invariant-bytes : goal.invariant-bytes
invariant-bytes l = l.raised.items ≡ map upper (take l.byte-index l.text)

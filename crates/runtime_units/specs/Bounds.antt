-- How much of the stack and of the data segment the runtime takes.
use Rattle.std.specs.Prelude.{◌≡◌, ℕ, ◌+◌, ◌≤◌, List, ◌++◌, Some, slice_get}
use Rattle.flat_code.specs.Program.{Key, Routine, Datum, UnitCode, FlatProgram, routine_of}
use Rattle.flat_code.specs.Meaning.{activation_bytes}
use Rattle.flat_code.specs.Legal.{CodeNames, code_depth, RuntimeCalls}
use Rattle.flat_code.specs.Plain.{unit_from, datum_of}
use Rattle.runtime_units.specs.Units.{runtime_codes, IsRuntimeUnit}

-- what a shallow program asks of its routines, of those of the runtime, by chains of calls that take at most so many bytes
pub record IsShallowRuntime (program : FlatProgram) (bytes : ℕ) : Type 0 where
  pub frames : (key : Key) (r : Routine) → IsRuntimeUnit key.unit → routine_of program key ≡ Some r → r.frame ≡ 0
  pub arguments : (key : Key) (r : Routine) → IsRuntimeUnit key.unit → routine_of program key ≡ Some r → r.arguments ≤ 256
  pub depth : (key : Key) (r : Routine) → IsRuntimeUnit key.unit → routine_of program key ≡ Some r → code_depth r.body ≤ 24
  pub covers : (key : Key) (r : Routine) → IsRuntimeUnit key.unit → routine_of program key ≡ Some r → activation_bytes r ≤ bytes
  pub chains : (key : Key) (unit : UnitCode) (r : Routine) → IsRuntimeUnit key.unit → program.unit key.unit ≡ Some unit → routine_of program key ≡ Some r →
      CodeNames (λ mention. RuntimeCalls program (λ other. bytes) (activation_bytes r) key mention) key.unit unit.names r.body

-- in the plain choice each datum of the runtime ends within the first 1,024 bytes of the data segment, whatever units come behind
abbrev pub StandFirst : List UnitCode → Type 0
StandFirst units =
    (key : Key) (unit : UnitCode) (datum : Datum) (offset : ℕ) → IsRuntimeUnit key.unit → unit_from 0 (runtime_codes ++ units) key.unit ≡ Some unit → slice_get unit.globals key.number ≡ Some datum →
    datum_of 0 0 (runtime_codes ++ units) key.unit key.number ≡ Some offset → offset + datum.size ≤ 1024

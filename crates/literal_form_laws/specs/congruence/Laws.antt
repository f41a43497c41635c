-- What typed programs that are the same have in common, as programs of literals.
use Rattle.std.specs.Prelude.{◌≡◌, List}
use Rattle.typed_tree.specs.declared.units.Program.{Program}
use Rattle.tp_meaning.specs.Programs.{stack_of, heap_of}
use Rattle.address_independence.specs.congruence.Laws.{IsSame}
use Rattle.mz_file.specs.declared.executable.Exe.{Exe}
use Rattle.literal_programs.specs.literal_code.Statement.{Statement}
use Rattle.literal_programs.specs.Literals.{Says}
use Rattle.literal_programs.specs.Memory.{HasMemoryOf}

-- The same is said by both, so both are programs of literals or neither is.
abbrev pub SaysAlike : Type 0
SaysAlike = (one other : Program) → IsSame one other → (statements : List Statement) → Says one statements → Says other statements

-- Both have the same memory, whatever they say.
abbrev pub MemoryAlike : Type 0
MemoryAlike = (one other : Program) → IsSame one other → (stack_of one ≡ stack_of other) × (heap_of one ≡ heap_of other)

abbrev pub HasMemoryAlike : Type 0
HasMemoryAlike = (one other : Program) → IsSame one other → (exe : Exe) → HasMemoryOf one exe → HasMemoryOf other exe

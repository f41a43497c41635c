-- The memory that a program has by its sources.
use Rattle.std.specs.Prelude.{◌≡◌, ◌+◌}
use Rattle.typed_tree.specs.declared.units.Program.{Program}
use Rattle.tp_meaning.specs.Programs.{stack_of, heap_of}
use Rattle.mz_file.specs.declared.executable.Exe.{Exe}
use Rattle.literal_programs.specs.declared.literal_code.image.Memory.{Memory}
use Rattle.literal_programs.specs.literal_code.Image.{paragraphs}

-- a program's stack and heap
pub record IsMemoryOf (program : Program) (memory : Memory) : Type 0 where
  pub stack : memory.stack ≡ stack_of program
  pub heap : memory.heap ≡ heap_of program

-- The executable has the stack and the heap of the program, and asks for no more behind its image.
pub record HasMemoryOf (program : Program) (exe : Exe) : Type 0 where
  pub stack : exe.block.stack ≡ stack_of program
  pub pointer : exe.stack.offset ≡ stack_of program
  pub heap : exe.block.heap ≡ heap_of program
  pub extra : exe.extra ≡ paragraphs (stack_of program) + paragraphs (heap_of program)

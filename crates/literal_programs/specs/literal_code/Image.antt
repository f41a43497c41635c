-- The executable of a program of literals.
use Rattle.std.specs.Prelude.{ℕ, ◌+◌, ◌-◌, ◌*◌, ◌/◌, true, List, [], ◌∷◌, ◌++◌, length, replicate}
use Rattle.literal_programs.specs.declared.literal_code.act.Act.{Act}
use Rattle.literal_programs.specs.declared.literal_code.image.Memory.{Memory}
use Rattle.mz_file.specs.declared.executable.Exe.{Exe}
use Rattle.literal_programs.specs.literal_code.Code.{acts_size, program_code, spelled}

-- the paragraphs that so many bytes take
abbrev pub paragraphs : ℕ → ℕ
paragraphs bytes = (bytes + 15) / 16

-- the bytes of the code: DS and BX are set in 8 bytes, and the error routine has 4
abbrev pub code_size : List Act → ℕ
code_size acts = 8 + acts_size acts + 4

-- the data segment stands on the paragraph behind the code
abbrev pub data_segment : List Act → ℕ
data_segment acts = paragraphs (code_size acts)

-- the texts, and behind them the byte that says whether an overlay manager is installed
abbrev pub data_of : List ℕ → List ℕ
data_of pool = pool ++ 0 ∷ []

-- the code for a data segment, zeros up to the paragraph, and the data
abbrev pub image_with : ℕ → List ℕ → List Act → List ℕ
image_with segment pool acts =
    spelled (program_code segment acts) ++ (replicate (16 * data_segment acts - code_size acts) 0 ++ data_of pool)

abbrev pub image_of : List ℕ → List Act → List ℕ
image_of pool acts = image_with (data_segment acts) pool acts

-- The executable: the one relocation is the data segment's word in the first instruction. Behind the data come the stack
-- and the heap, each on a paragraph. The error routine is the last code, and takes the program's end with the code in AL.
abbrev pub executable_of : Memory → List ℕ → List Act → Exe
executable_of memory pool acts = record {
  image = image_of pool acts;
  relocations = record { offset = 1; segment = 0 } ∷ [];
  entry = record { offset = 0; segment = 0 };
  stack = record { offset = memory.stack; segment = data_segment acts + paragraphs (length pool + 1) };
  extra = paragraphs memory.stack + paragraphs memory.heap;
  block = record {
    stubs = [];
    largest = 0;
    error_routine = record { offset = code_size acts - 4; segment = 0 };
    installed = record { offset = length pool; segment = data_segment acts };
    stack = memory.stack;
    heap = memory.heap;
    data_segment = data_segment acts;
    data_bytes = length pool + 1;
    marked = true;
  };
}

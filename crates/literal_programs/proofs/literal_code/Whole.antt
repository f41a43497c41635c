-- The executable of a program of literals does what the program says.
use Rattle.std.proofs.Common.{◌≡◌, ℕ, ◌+◌, ◌-◌, ◌*◌, ◌<◌, ◌≤◌, false, List, [], ◌++◌, length, refl, ap, ◌∙◌, subst, arith}
use Rattle.std.specs.Prelude.{slice_index, nat_lt, if◌then◌else◌}
use Rattle.std.specs.List.{All}
use Rattle.std.proofs.lemmas.Bool.Decides.{nat_tests}
use Rattle.std.proofs.lemmas.List.Elements.{recursion_from_All, All-from_recursion}
use Rattle.x86_table.specs.Spelling.{word_bytes, word_modrm}
use Rattle.cpu_8086.specs.declared.registers.Registers.{Registers}
use Rattle.cpu_8086.specs.Process.{Process, Running}
use Rattle.cpu_8086.specs.Run.{Runs}
use Rattle.cpu_8086.proofs.RunLaws.{runs_compose}
use Rattle.literal_programs.specs.declared.literal_code.act.Act.{Act}
use Rattle.literal_programs.specs.declared.literal_code.image.Memory.{Memory}
use Rattle.literal_programs.specs.literal_code.Act.{IsWithin, statements_in}
use Rattle.literal_programs.specs.literal_code.Statement.{written, code_of, shown}
use Rattle.mz_file.specs.declared.executable.Exe.{Exe}
use Rattle.mz_file.specs.Format.{Denotes}
use Rattle.mz_file.specs.Format.{IsWithin as IsInImage}
use Rattle.mz_file.specs.Spelling.{IsWritable}
use Rattle.mz_file.specs.Load.{relocated, loaded_memory, loaded, start_registers, IsLoadable, paragraphs_taken, FitsWithBuffer}
use Rattle.mz_file.proofs.LoadLaws.{get_or-loaded_memory}
use Rattle.literal_programs.specs.literal_code.Code.{start_code, acts_code, error_code, program_code}
use Rattle.literal_programs.specs.literal_code.Image.{data_segment, image_with, image_of, executable_of}
use Rattle.literal_programs.specs.literal_code.Ends.{EndsWithin, AlwaysEnds}
use Rattle.literal_programs.proofs.literal_code.Stands.{Stands, process}
use Rattle.literal_programs.proofs.literal_code.Acts.{EndsSo, over, start_runs, acts_run}
use Rattle.literal_programs.proofs.literal_code.Placed.{stands_from, stands_front, text_lies, texts_lie}
use Rattle.literal_programs.proofs.literal_code.CodeLaws.{acts_size_bound}
use Rattle.literal_programs.proofs.literal_code.ImageLaws.{relocated-image, code_lies, pool_lies, length-program_code, length-image}

-- the byte of the loaded image behind 700h
byte_loaded : (memory : Memory) (pool : List ℕ) (acts : List Act) (k : ℕ) → data_segment acts + 0x70 < 65536 → 1792 + k < 1048576 → slice_index (loaded_memory (executable_of memory pool acts) 1048576) (1792 + k) ≡ slice_index (image_with (data_segment acts + 0x70) pool acts) k
byte_loaded memory pool acts k small inside =
    let exe : Exe = executable_of memory pool acts in
    let above : nat_lt (1792 + k) 1792 ≡ false = grind (arith, nat_tests) in
    let back : 1792 + k - 1792 ≡ k = omega arith in
    get_or-loaded_memory exe 1048576 (1792 + k) inside
    ∙ ap (λ b. if b then 0 else slice_index (relocated (image_of pool acts) exe.relocations) (1792 + k - 1792)) above
    ∙ ap (slice_index (relocated (image_of pool acts) exe.relocations)) back
    ∙ ap (λ i. slice_index i k) (relocated-image pool acts small)

pub program_runs : (memory : Memory) (pool : List ℕ) (acts : List Act) (input : List ℕ) → length acts ≤ 4096 → length pool ≤ 8192 → All (IsWithin (length pool)) acts →
    EndsSo (loaded_memory (executable_of memory pool acts) 1048576) input 0 (start_registers (executable_of memory pool acts)) [] (written (statements_in pool acts)) (code_of (statements_in pool acts)) (4 * length acts + 5)
unfolding word_bytes word_modrm
program_runs memory pool acts input few short within =
    let exe : Exe = executable_of memory pool acts in
    let m : List ℕ = loaded_memory exe 1048576 in
    let d : ℕ = data_segment acts in
    let bound = acts_size_bound acts in
    let small : d + 0x70 < 65536 = omega arith in
    let size = length-program_code (d + 0x70) acts in
    let code_stands : Stands m 0 (program_code (d + 0x70) acts) = stands_from m 0 (program_code (d + 0x70) acts)
    (λ k h. byte_loaded memory pool acts k small (omega (arith, size)) ∙ code_lies (d + 0x70) pool acts k h) in
    let whole = stands_front m 0 (start_code (d + 0x70) ++ acts_code acts) error_code code_stands in
    let base : 16 * (d + 0x70) ≡ 1792 + 16 * d = omega arith in
    let lies : (k : ℕ) → k < length pool → slice_index m (1792 + 16 * d + k) ≡ slice_index pool k = λ k h.
    let e : 1792 + 16 * d + k ≡ 1792 + (16 * d + k) = omega arith in
    ap (slice_index m) e ∙ byte_loaded memory pool acts (16 * d + k) small (omega arith) ∙ pool_lies (d + 0x70) pool acts k h in
    let texts = texts_lie m (d + 0x70) pool acts (text_lies m (1792 + 16 * d) (d + 0x70) pool base (omega arith) short lies) (recursion_from_All (IsWithin (length pool)) acts within) in
    let g : Registers = start_registers exe in
    let first = start_runs m input 0 g [] (d + 0x70) refl (whole.0, (whole.1.0, (whole.1.1.0, tt))) in
    let rest = acts_run m input 0 first.0 [] 8 (d + 0x70) pool acts first.2 (omega arith) whole.1.1.1 texts in
    let last_few = rest.few in
    let out = written (statements_in pool acts) in
    let code = code_of (statements_in pool acts) in
    record {
      events = 3 + rest.events;
      last = rest.last;
      runs = runs_compose 3 rest.events (process m input 0 g []) (process m input 0 first.0 []) (over m input 0 rest.last out code) first.1 rest.runs;
      few = omega arith;
    }

-- The run of bytes that stand for the executable ends as the statements show, after few events.
pub ends_within : (memory : Memory) (pool : List ℕ) (acts : List Act) (bytes input : List ℕ) → length acts ≤ 4096 → length pool ≤ 8192 → All (IsWithin (length pool)) acts → Denotes bytes (executable_of memory pool acts) → EndsWithin 16389 bytes input (shown (statements_in pool acts))
ends_within memory pool acts bytes input few short within denotes =
    let r = program_runs memory pool acts input few short within in
    let code = code_of (statements_in pool acts) in
    let last : Process = over (loaded_memory (executable_of memory pool acts) 1048576) input 0 r.last (written (statements_in pool acts)) code in
    let P : Exe → Type 0 = λ exe. Runs r.events (record { machine = loaded exe; input = input; taken = 0; out = []; err = []; status = Running }) last in
    let least = r.few in
    record {
      run = record { events = r.events; last = last; runs = subst P denotes.value r.runs; code = code; ends = refl; status = refl; out = refl; err = refl };
      few = omega arith;
    }

inside : (memory : Memory) (pool : List ℕ) (acts : List Act) → All (IsInImage (length (image_of pool acts))) (executable_of memory pool acts).relocations
inside memory pool acts =
    let long = length-image (data_segment acts) pool acts in
    All-from_recursion (IsInImage (length (image_of pool acts))) (executable_of memory pool acts).relocations (omega (arith, long), tt)

pub writable : (memory : Memory) (pool : List ℕ) (acts : List Act) → length acts ≤ 4096 → length pool ≤ 8192 → IsWritable (executable_of memory pool acts)
writable memory pool acts few short =
    let long = length-image (data_segment acts) pool acts in
    let bound = acts_size_bound acts in
    record { stubs = omega arith; relocations = omega arith; inside = inside memory pool acts; pages = omega (arith, long, bound) }

pub loadable : (memory : Memory) (pool : List ℕ) (acts : List Act) → length acts ≤ 4096 → length pool ≤ 8192 → IsLoadable (executable_of memory pool acts)
loadable memory pool acts few short =
    let long = length-image (data_segment acts) pool acts in
    let bound = acts_size_bound acts in
    record { inside = inside memory pool acts; size = omega (arith, long, bound) }

pub fits : (memory : Memory) (pool : List ℕ) (acts : List Act) → memory.stack ≤ 65520 → memory.heap ≤ 196608 → length acts ≤ 4096 → length pool ≤ 8192 → paragraphs_taken (executable_of memory pool acts) ≤ 40960
fits memory pool acts stack heap few short =
    let long = length-image (data_segment acts) pool acts in
    let bound = acts_size_bound acts in
    omega (arith, long, bound)

pub always_ends : (memory : Memory) (pool : List ℕ) (acts : List Act) (bytes : List ℕ) → memory.stack ≤ 65520 → memory.heap ≤ 196608 → length acts ≤ 4096 → length pool ≤ 8192 → All (IsWithin (length pool)) acts → Denotes bytes (executable_of memory pool acts) → AlwaysEnds bytes (shown (statements_in pool acts))
always_ends memory pool acts bytes stack heap few short within denotes = record {
  executable = denotes.executable;
  fits = subst {A = Exe} (λ exe. FitsWithBuffer exe 0) denotes.value (omega (arith, fits memory pool acts stack heap few short));
  runs = λ input. (ends_within memory pool acts bytes input few short within denotes).run;
}

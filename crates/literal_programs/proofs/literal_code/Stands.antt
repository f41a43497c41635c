-- Code that stands in memory, and what its instructions do.
use Rattle.std.proofs.Common.{◌≡◌, ℕ, ◌+◌, ◌%◌, ◌<◌, ◌≤◌, List, [], ◌∷◌, ◌++◌, length, refl, ap, ◌∙◌, subst, arith}
use Rattle.std.specs.Prelude.{slice_index}
use Rattle.x86_table.specs.declared.operand.WordReg.{WordReg}
use Rattle.x86_table.specs.declared.operand.WordReg.TheVariants as word
use Rattle.x86_table.specs.declared.operand.ByteReg.{ByteReg}
use Rattle.x86_table.specs.declared.operand.DataSeg.TheVariants as seg
use Rattle.x86_table.specs.declared.operand.WordOperand.TheVariants as word_rm
use Rattle.x86_table.specs.declared.instr.Instr.{Instr}
use Rattle.x86_table.specs.declared.instr.Instr.TheVariants as instr
use Rattle.x86_table.specs.Spelling.{spelling, word_bytes, word_modrm}
use Rattle.cpu_8086.specs.declared.registers.Registers.{Registers}
use Rattle.cpu_8086.specs.declared.machine.Event.{Event}
use Rattle.cpu_8086.specs.State.{State}
use Rattle.cpu_8086.specs.Access.{at_offset}
use Rattle.cpu_8086.specs.Operand.{with_word_reg, with_byte_reg}
use Rattle.cpu_8086.specs.Step.{fetched, past}
use Rattle.cpu_8086.specs.Process.{Process, Running, after_step, serviced}
use Rattle.cpu_8086.specs.Run.{Goes}
use Rattle.cpu_8086.proofs.FetchLaws.{fetched_spells-linear}
use Rattle.cpu_8086.proofs.StepLaws.{effect-MovWord, effect-MovByte, effect-MovToSeg, effect-Int}
use Rattle.cpu_8086.proofs.RunLaws.{goes_by}

-- these instructions stand from an offset of segment 0070h on
abbrev pub Stands : List ℕ → ℕ → List Instr → Type 0
Stands m o [] = Unit {0}
Stands m o (i ∷ is) = ((k : ℕ) → k < length (spelling i) → slice_index m (1792 + o + k) ≡ slice_index (spelling i) k) × Stands m (o + length (spelling i)) is

-- a running process whose code segment is 0070h and whose errors are empty
abbrev pub process : List ℕ → List ℕ → ℕ → Registers → List ℕ → Process
process m input taken g out = record { machine = record { registers = g; cs = 112; memory = m }; input = input; taken = taken; out = out; err = []; status = Running }

-- the instruction at IP is the next one
pub fetches : (m : List ℕ) (g : Registers) (o : ℕ) (i : Instr) → g.ip ≡ o → o + length (spelling i) ≤ 65536 → ((k : ℕ) → k < length (spelling i) → slice_index m (1792 + o + k) ≡ slice_index (spelling i) k) → (rest : List ℕ) × (fetched (record { registers = g; cs = 112; memory = m }) ≡ spelling i ++ rest)
fetches m g o i at fits stands =
    fetched_spells-linear (record { registers = g; cs = 112; memory = m }) i (omega arith) (omega arith)
    (λ k h. let e : 1792 + g.ip + k ≡ 1792 + o + k = omega arith in ap (λ n. slice_index m n) e ∙ stands k h)

pub length-MovWord : (r : WordReg) (n : ℕ) → length (spelling (instr.MovWord r n)) ≡ 3
unfolding word_bytes
length-MovWord r n = refl

pub length-MovByte : (r : ByteReg) (n : ℕ) → length (spelling (instr.MovByte r n)) ≡ 2
length-MovByte r n = refl

pub length-Int : (n : ℕ) → length (spelling (instr.Int n)) ≡ 2
length-Int n = refl

pub length-MovToSeg : length (spelling (instr.MovToSeg seg.Ds (word_rm.Reg word.Ax))) ≡ 2
unfolding word_modrm
length-MovToSeg = refl

-- each kind of instruction, by what it leaves
pub goes_MovWord : (m input : List ℕ) (taken : ℕ) (g : Registers) (out : List ℕ) (o : ℕ) (r : WordReg) (n : ℕ) → g.ip ≡ o → o + 3 ≤ 65536 → ((k : ℕ) → k < length (spelling (instr.MovWord r n)) → slice_index m (1792 + o + k) ≡ slice_index (spelling (instr.MovWord r n)) k) → Goes (process m input taken g out) (process m input taken (with_word_reg (at_offset g ((g.ip + 3) % 65536)) r n) out)
goes_MovWord m input taken g out o r n at fits stands =
    let p = process m input taken g out in
    let len = length-MovWord r n in
    let f = fetches m g o (instr.MovWord r n) at (omega (arith, len)) stands in
    let go = goes_by p (instr.MovWord r n) f.0 refl f.1 in
    let G : State × Event → Type 0 = λ x. Goes p (after_step p x.0 x.1) in
    subst G (effect-MovWord p.machine r n) go

pub goes_MovByte : (m input : List ℕ) (taken : ℕ) (g : Registers) (out : List ℕ) (o : ℕ) (r : ByteReg) (n : ℕ) → g.ip ≡ o → o + 2 ≤ 65536 → ((k : ℕ) → k < length (spelling (instr.MovByte r n)) → slice_index m (1792 + o + k) ≡ slice_index (spelling (instr.MovByte r n)) k) → Goes (process m input taken g out) (process m input taken (with_byte_reg (at_offset g ((g.ip + 2) % 65536)) r n) out)
goes_MovByte m input taken g out o r n at fits stands =
    let p = process m input taken g out in
    let len = length-MovByte r n in
    let f = fetches m g o (instr.MovByte r n) at (omega (arith, len)) stands in
    let go = goes_by p (instr.MovByte r n) f.0 refl f.1 in
    let G : State × Event → Type 0 = λ x. Goes p (after_step p x.0 x.1) in
    subst G (effect-MovByte p.machine r n) go

pub goes_Int : (m input : List ℕ) (taken : ℕ) (g : Registers) (out : List ℕ) (o n : ℕ) → g.ip ≡ o → o + 2 ≤ 65536 → ((k : ℕ) → k < length (spelling (instr.Int n)) → slice_index m (1792 + o + k) ≡ slice_index (spelling (instr.Int n)) k) → Goes (process m input taken g out) (serviced (process m input taken g out) (record { registers = at_offset g ((g.ip + 2) % 65536); cs = 112; memory = m }) n)
goes_Int m input taken g out o n at fits stands =
    let p = process m input taken g out in
    let len = length-Int n in
    let f = fetches m g o (instr.Int n) at (omega (arith, len)) stands in
    let go = goes_by p (instr.Int n) f.0 refl f.1 in
    let G : State × Event → Type 0 = λ x. Goes p (after_step p x.0 x.1) in
    subst G (effect-Int p.machine n) go

pub goes_MovToSeg : (m input : List ℕ) (taken : ℕ) (g : Registers) (out : List ℕ) (o : ℕ) → g.ip ≡ o → o + 2 ≤ 65536 → ((k : ℕ) → k < length (spelling (instr.MovToSeg seg.Ds (word_rm.Reg word.Ax))) → slice_index m (1792 + o + k) ≡ slice_index (spelling (instr.MovToSeg seg.Ds (word_rm.Reg word.Ax))) k) → Goes (process m input taken g out) (process m input taken (record (past (instr.MovToSeg seg.Ds (word_rm.Reg word.Ax)) g) { ds = g.ax }) out)
goes_MovToSeg m input taken g out o at fits stands =
    let p = process m input taken g out in
    let i = instr.MovToSeg seg.Ds (word_rm.Reg word.Ax) in
    let len = length-MovToSeg in
    let f = fetches m g o i at (omega (arith, len)) stands in
    let go = goes_by p i f.0 refl f.1 in
    let G : State × Event → Type 0 = λ x. Goes p (after_step p x.0 x.1) in
    subst G (effect-MovToSeg p.machine seg.Ds word.Ax) go

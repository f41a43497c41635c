-- What the code of each act does, and that of all acts.
use Rattle.std.proofs.Common.{◌≡◌, ℕ, suc, ◌+◌, ◌*◌, ◌/◌, ◌%◌, ◌<◌, ◌≤◌, false, List, [], ◌∷◌, ◌++◌, length, refl, sym, ap, ◌∙◌, subst, arith, append_assoc, append-nil}
use Rattle.std.specs.Prelude.{take, drop}
use Rattle.x86_table.specs.declared.operand.WordReg.TheVariants as word
use Rattle.x86_table.specs.declared.operand.ByteReg.TheVariants as byte
use Rattle.x86_table.specs.declared.operand.DataSeg.TheVariants as seg
use Rattle.x86_table.specs.declared.operand.WordOperand.TheVariants as word_rm
use Rattle.x86_table.specs.declared.instr.Instr.TheVariants as instr
use Rattle.x86_table.specs.Spelling.{word_bytes, word_modrm}
use Rattle.cpu_8086.specs.declared.registers.Registers.{Registers}
use Rattle.cpu_8086.specs.State.{State}
use Rattle.cpu_8086.specs.Access.{at_offset}
use Rattle.cpu_8086.specs.Operand.{with_word_reg, with_byte_reg}
use Rattle.cpu_8086.specs.Step.{past}
use Rattle.cpu_8086.specs.Process.{Process, Ended, dos_call, exit_call, answered, written_bytes, bytes_at}
use Rattle.cpu_8086.specs.Run.{Goes, Runs}
use Rattle.cpu_8086.proofs.RunLaws.{runs_after, runs_one, runs_compose}
use Rattle.literal_programs.specs.declared.literal_code.act.Act.{Act}
use Rattle.literal_programs.specs.declared.literal_code.act.Act.TheVariants as act
use Rattle.literal_programs.specs.literal_code.Act.{statements_in}
use Rattle.literal_programs.specs.literal_code.Statement.{written, code_of}
use Rattle.literal_programs.specs.literal_code.Code.{start_code, write_code, halt_code, acts_code, acts_size}
use Rattle.literal_programs.proofs.literal_code.Stands.{Stands, process, goes_MovWord, goes_MovByte, goes_Int, goes_MovToSeg}

-- DOS writes where AH is 40h and BX is 1
dos_writes : (p : Process) (t : State) → t.registers.ax / 256 ≡ 64 → t.registers.bx ≡ 1 → dos_call p t ≡ record p { machine = answered t t.registers.cx false; out = p.out ++ written_bytes t }
dos_writes p t function handle = rw function (rw handle refl)

-- DOS ends the program where AH is 4Ch
dos_exits : (p : Process) (t : State) → t.registers.ax / 256 ≡ 76 → dos_call p t ≡ exit_call p t
dos_exits p t function = rw function refl

-- IP, DS and BX are as the acts want them
pub record IsReady (g : Registers) (offset segment : ℕ) : Type 0 where
  pub at : g.ip ≡ offset
  pub segment_is : g.ds ≡ segment
  pub handle : g.bx ≡ 1

abbrev pub Comes : (n : ℕ) (m input : List ℕ) (taken : ℕ) (g : Registers) (out out' : List ℕ) (offset segment : ℕ) → Type 0
Comes n m input taken g out out' offset segment = (g' : Registers) × Runs n (process m input taken g out) (process m input taken g' out') × IsReady g' offset segment

pub write_runs : (m input : List ℕ) (taken : ℕ) (g : Registers) (out : List ℕ) (o d from count : ℕ) → IsReady g o d → o + 10 ≤ 65535 → Stands m o (write_code from count) → Comes 4 m input taken g out (out ++ bytes_at m d from count) (o + 10) d
unfolding word_bytes
write_runs m input taken g out o d from count ready fits stands =
    let g1 : Registers = with_word_reg (at_offset g ((g.ip + 3) % 65536)) word.Cx count in
    let g2 : Registers = with_word_reg (at_offset g1 ((g1.ip + 3) % 65536)) word.Dx from in
    let g3 : Registers = with_byte_reg (at_offset g2 ((g2.ip + 2) % 65536)) byte.Ah 64 in
    let g4 : Registers = at_offset g3 ((g3.ip + 2) % 65536) in
    let t : State = record { registers = g4; cs = 112; memory = m } in
    let at : g.ip ≡ o = ready.at in
    let at1 : g1.ip ≡ o + 3 = omega arith in
    let at2 : g2.ip ≡ o + 3 + 3 = omega arith in
    let at3 : g3.ip ≡ o + 3 + 3 + 2 = omega arith in
    let s1 = goes_MovWord m input taken g out o word.Cx count at (omega arith) stands.0 in
    let s2 = goes_MovWord m input taken g1 out (o + 3) word.Dx from at1 (omega arith) stands.1.0 in
    let s3 = goes_MovByte m input taken g2 out (o + 3 + 3) byte.Ah 64 at2 (omega arith) stands.1.1.0 in
    let s4 = goes_Int m input taken g3 out (o + 3 + 3 + 2) 33 at3 (omega arith) stands.1.1.1.0 in
    let p3 = process m input taken g3 out in
    let function : g4.ax / 256 ≡ 64 = omega arith in
    let wrote = dos_writes p3 t function ready.handle in
    let g5 : Registers = (answered t count false).registers in
    let written : List ℕ = bytes_at m d from count in
    let same : bytes_at m g.ds from count ≡ written = ap (λ x. bytes_at m x from count) ready.segment_is in
    let T : Process → Type 0 = λ q. Goes p3 q in
    let s4' : Goes p3 (process m input taken g5 (out ++ bytes_at m g.ds from count)) = subst T wrote s4 in
    let U : List ℕ → Type 0 = λ w. Goes p3 (process m input taken g5 (out ++ w)) in
    let s4'' = subst U same s4' in
    let p = process m input taken g out in
    let p1 = process m input taken g1 out in
    let p2 = process m input taken g2 out in
    let q = process m input taken g5 (out ++ written) in (
      g5,
      runs_after 3 p p1 q s1 (runs_after 2 p1 p2 q s2 (runs_after 1 p2 p3 q s3 (runs_one p3 q s4''))),
      record { at = omega arith; segment_is = ready.segment_is; handle = ready.handle },
    )

-- the program has ended
abbrev pub over : List ℕ → List ℕ → ℕ → Registers → List ℕ → ℕ → Process
over m input taken g out code = record { machine = record { registers = g; cs = 112; memory = m }; input = input; taken = taken; out = out; err = []; status = Ended code }

pub halt_runs : (m input : List ℕ) (taken : ℕ) (g : Registers) (out : List ℕ) (o d code : ℕ) → IsReady g o d → o + 5 ≤ 65535 → code < 256 → Stands m o (halt_code code) → (g' : Registers) × Runs 2 (process m input taken g out) (over m input taken g' out code)
unfolding word_bytes
halt_runs m input taken g out o d code ready fits byte stands =
    let g1 : Registers = with_word_reg (at_offset g ((g.ip + 3) % 65536)) word.Ax (0x4C00 + code) in
    let g2 : Registers = at_offset g1 ((g1.ip + 2) % 65536) in
    let t : State = record { registers = g2; cs = 112; memory = m } in
    let at : g.ip ≡ o = ready.at in
    let at1 : g1.ip ≡ o + 3 = omega arith in
    let s1 = goes_MovWord m input taken g out o word.Ax (0x4C00 + code) at (omega arith) stands.0 in
    let s2 = goes_Int m input taken g1 out (o + 3) 33 at1 (omega arith) stands.1.0 in
    let p = process m input taken g out in
    let p1 = process m input taken g1 out in
    let function : g2.ax / 256 ≡ 76 = omega arith in
    let low : g2.ax % 256 ≡ code = omega arith in
    let T : Process → Type 0 = λ q. Goes p1 q in
    let s2' = subst T (dos_exits p1 t function) s2 in
    let U : ℕ → Type 0 = λ c. Goes p1 (over m input taken g2 out c) in
    let s2'' = subst U low s2' in
    (g2, runs_after 1 p p1 (over m input taken g2 out code) s1 (runs_one p1 (over m input taken g2 out code) s2''))

-- what each act writes lies in the data segment, and each code is a byte
abbrev pub Texts : List ℕ → ℕ → List ℕ → List Act → Type 0
Texts m d pool [] = Unit {0}
Texts m d pool (act.Write from count ∷ acts) = (bytes_at m d from count ≡ take count (drop from pool)) × Texts m d pool acts
Texts m d pool (act.Halt code ∷ acts) = (code < 256) × Texts m d pool acts

-- Within so many events the program has ended with a code.
pub record EndsSo (m input : List ℕ) (taken : ℕ) (g : Registers) (out out' : List ℕ) (code most : ℕ) : Type 0 where
  pub events : ℕ
  pub last : Registers
  pub runs : Runs events (process m input taken g out) (over m input taken last out' code)
  pub few : events ≤ most

pub acts_run : (m input : List ℕ) (taken : ℕ) (g : Registers) (out : List ℕ) (o d : ℕ) (pool : List ℕ) (acts : List Act) → IsReady g o d → o + acts_size acts ≤ 65535 → Stands m o (acts_code acts) → Texts m d pool acts → EndsSo m input taken g out (out ++ written (statements_in pool acts)) (code_of (statements_in pool acts)) (4 * length acts + 2)
unfolding word_bytes
acts_run m input taken g out o d pool [] ready fits stands texts =
    let r = halt_runs m input taken g out o d 0 ready fits (omega arith) stands in
    let e : out ++ [] ≡ out = append-nil out in
    let P : List ℕ → Type 0 = λ w. EndsSo m input taken g out w 0 2 in
    subst P (sym e) (record { events = 2; last = r.0; runs = r.1; few = omega arith })
acts_run m input taken g out o d pool (act.Write from count ∷ acts) ready fits stands texts =
    let bytes : List ℕ = take count (drop from pool) in
    let first = write_runs m input taken g out o d from count ready (omega arith) (stands.0, (stands.1.0, (stands.1.1.0, (stands.1.1.1.0, tt)))) in
    let place : o + 3 + 3 + 2 + 2 ≡ o + 10 = omega arith in
    let S : ℕ → Type 0 = λ x. Stands m x (acts_code acts) in
    let rest = acts_run m input taken first.0 (out ++ bytes_at m d from count) (o + 10) d pool acts first.2 (omega arith) (subst S place stands.1.1.1.1) texts.1 in
    let after = written (statements_in pool acts) in
    let code = code_of (statements_in pool acts) in
    let p = process m input taken g out in
    let middle = process m input taken first.0 (out ++ bytes_at m d from count) in
    let last = over m input taken rest.last ((out ++ bytes_at m d from count) ++ after) code in
    let few = rest.few in
    let most : ℕ = 4 * suc (length acts) + 2 in
    let all : EndsSo m input taken g out ((out ++ bytes_at m d from count) ++ after) code most = record {
      events = 4 + rest.events;
      last = rest.last;
      runs = runs_compose 4 rest.events p middle last first.1 rest.runs;
      few = omega arith;
    } in
    let same : (out ++ bytes_at m d from count) ++ after ≡ out ++ (bytes ++ after) = ap (λ w. (out ++ w) ++ after) texts.0 ∙ append_assoc out bytes after in
    let P : List ℕ → Type 0 = λ w. EndsSo m input taken g out w code most in
    subst P same all
acts_run m input taken g out o d pool (act.Halt code ∷ acts) ready fits stands texts =
    let r = halt_runs m input taken g out o d code ready (omega arith) texts.0 (stands.0, (stands.1.0, tt)) in
    let e : out ++ [] ≡ out = append-nil out in
    let most : ℕ = 4 * suc (length acts) + 2 in
    let P : List ℕ → Type 0 = λ w. EndsSo m input taken g out w code most in
    subst P (sym e) (record { events = 2; last = r.0; runs = r.1; few = omega arith })

pub start_runs : (m input : List ℕ) (taken : ℕ) (g : Registers) (out : List ℕ) (segment : ℕ) → g.ip ≡ 0 → Stands m 0 (start_code segment) → Comes 3 m input taken g out out 8 segment
unfolding word_bytes word_modrm
start_runs m input taken g out segment at stands =
    let g1 : Registers = with_word_reg (at_offset g ((g.ip + 3) % 65536)) word.Ax segment in
    let g2 : Registers = record (past (instr.MovToSeg seg.Ds (word_rm.Reg word.Ax)) g1) { ds = g1.ax } in
    let g3 : Registers = with_word_reg (at_offset g2 ((g2.ip + 3) % 65536)) word.Bx 1 in
    let at1 : g1.ip ≡ 0 + 3 = omega arith in
    let at2 : g2.ip ≡ 0 + 3 + 2 = omega arith in
    let at3 : g3.ip ≡ 8 = omega arith in
    let s1 = goes_MovWord m input taken g out 0 word.Ax segment at (omega arith) stands.0 in
    let s2 = goes_MovToSeg m input taken g1 out (0 + 3) at1 (omega arith) stands.1.0 in
    let s3 = goes_MovWord m input taken g2 out (0 + 3 + 2) word.Bx 1 at2 (omega arith) stands.1.1.0 in
    let p = process m input taken g out in
    let p1 = process m input taken g1 out in
    let p2 = process m input taken g2 out in
    let p3 = process m input taken g3 out in
    (g3, runs_after 2 p p1 p3 s1 (runs_after 1 p1 p2 p3 s2 (runs_one p2 p3 s3)), record { at = at3; segment_is = refl; handle = refl })

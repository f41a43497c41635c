-- Each way of going astray is met.
use Rattle.std.proofs.Common.{◌≡◌, ◌≢◌, ℕ, ◌==◌, Bool, true, false, [], None, Ok, Err, refl, sym, ap, ◌∙◌, subst, arith, eq-eqb, ne_eqb}
use Rattle.std.specs.Prelude.{◌&&◌, not, if◌then◌else◌}
use Rattle.x86_table.specs.declared.instr.Instr.{Instr}
use Rattle.x86_table.specs.declared.instr.Instr.TheVariants as instr
use Rattle.x86_table.specs.declared.instr.Immediate.TheVariants as immediate
use Rattle.x86_table.specs.declared.operand.ByteReg.TheVariants as byte
use Rattle.x86_table.specs.declared.operand.DataSeg.TheVariants as seg
use Rattle.x86_table.specs.declared.operand.SegReg.TheVariants as any_seg
use Rattle.x86_table.specs.declared.operand.WordOperand.TheVariants as word_rm
use Rattle.x86_table.specs.declared.operand.WordReg.{WordReg}
use Rattle.cpu_8086.specs.declared.registers.Registers.{Registers}
use Rattle.cpu_8086.specs.Access.{Act, Done, Read, in_segment, byte_then, word_then, put_byte}
use Rattle.cpu_8086.specs.Effect.{act}
use Rattle.cpu_8086.specs.Memory.{address}
use Rattle.cpu_8086.specs.Operand.{word_reg, with_data_seg, with_byte_reg, offset_of, usual_segment}
use Rattle.cpu_8086.specs.Step.{past}
use Rattle.resident_machine.specs.Program.{Overlay, Program, image_target}
use Rattle.resident_machine.specs.Astray.{Astray, LeadsNowhere, TouchesReturn, TouchesKept, ReadsUnknown, TakesCodeSegment, LeavesHalf, ReturnsElsewhere, Traps, ClearsItself, Uninstalls, MovesStack, and_then}
use Rattle.resident_machine.specs.Cells.{Cell, Known, Unknown, Kept, Paired, with_cell, known_then, free_then}
use Rattle.resident_machine.specs.Effect.{Outcome, plain_effect, completed, kept_installed, effect_of, is_near_call, far_return, cleared, is_zero, jumped_to, with_memory, on_cells}
use Rattle.resident_machine.specs.Example.{byte_at, load_al}
use Rattle.resident_machine.specs.State.{ResidentState, NoService}
use Rattle.resident_machine.specs.Dos.{plainly}
use Rattle.resident_machine.proofs.CellLaws.{with_cell-same}

-- where the tree goes astray, and no half record is there, so does the instruction
by_tree : (p : Program) (r : ResidentState) (i : Instr) (way : Astray) → r.half ≡ false → plain_effect p r i ≡ Err way → effect_of p r i ≡ Err way
unfolding effect_of
by_tree p r i way half e =
    let whole : Outcome = if r.half then completed p r i else plain_effect p r i in
    let same : whole ≡ Err way = subst (λ b. (if b then completed p r i else plain_effect p r i) ≡ Err way) (sym half) e in
    ap (λ o. and_then o (kept_installed p r)) same

-- SS stays
same_stack : (r : ResidentState) (o : Outcome) → (if r.registers.ss == r.registers.ss then o else Err MovesStack) ≡ o
same_stack r o = rw (eq-eqb r.registers.ss r.registers.ss refl) refl

pub traps : (p : Program) (r : ResidentState) → r.half ≡ false → effect_of p r (instr.Int 63) ≡ Err Traps
unfolding act
traps p r half = by_tree p r (instr.Int 63) Traps half (same_stack r (Err Traps))

pub clears : (p : Program) (r : ResidentState) (v : ℕ) → r.half ≡ false → r.cs ≡ Overlay v → effect_of p r (instr.Int 96) ≡ Err ClearsItself
unfolding act
clears p r v half cs = by_tree p r (instr.Int 96) ClearsItself half
    (same_stack r (cleared r.cs (with_memory r (past (instr.Int 96) r.registers) r.cells)) ∙ ap (λ c. cleared c (with_memory r (past (instr.Int 96) r.registers) r.cells)) cs)

pub leaves_half : (p : Program) (r : ResidentState) (i : Instr) → r.half ≡ true → is_near_call i ≡ false → effect_of p r i ≡ Err LeavesHalf
unfolding effect_of
leaves_half p r i half near = rw half (rw near refl)

pub takes_code_segment : (p : Program) (r : ResidentState) (w : WordReg) → r.half ≡ false → effect_of p r (instr.MovFromSeg (word_rm.Reg w) any_seg.Cs) ≡ Err TakesCodeSegment
unfolding act
takes_code_segment p r w half = by_tree p r (instr.MovFromSeg (word_rm.Reg w) any_seg.Cs) TakesCodeSegment half refl

pub returns_elsewhere : (p : Program) (r : ResidentState) → r.half ≡ false → r.records ≡ [] → effect_of p r instr.RetFar ≡ Err ReturnsElsewhere
unfolding act
returns_elsewhere p r half none = by_tree p r instr.RetFar ReturnsElsewhere half
    (same_stack r (far_return r (past instr.RetFar r.registers) r.cells 0 r.records) ∙ ap (far_return r (past instr.RetFar r.registers) r.cells 0) none)

pub leads_nowhere : (p : Program) (r : ResidentState) (segment offset : ℕ) → r.half ≡ false → p.image segment ≡ None → effect_of p r (instr.JumpFar offset segment) ≡ Err LeadsNowhere
unfolding act
leads_nowhere p r segment offset half none = by_tree p r (instr.JumpFar offset segment) LeadsNowhere half
    (same_stack r (jumped_to r (past (instr.JumpFar offset segment) r.registers) r.cells (image_target (p.image segment) segment offset))
    ∙ ap (λ o. jumped_to r (past (instr.JumpFar offset segment) r.registers) r.cells (image_target o segment offset)) none)

read_tree : (p : Program) (r : ResidentState) (place : ℕ) (next : ℕ → Act) (x : Cell) (way : Astray) → r.cells place ≡ x → ((more : ℕ → Outcome) → known_then x more ≡ Err way) → on_cells p r (Read place next) r.cells ≡ Err way
read_tree p r place next x way cell e = ap (λ z. known_then z (λ v. on_cells p r (next v) r.cells)) cell ∙ e (λ v. on_cells p r (next v) r.cells)

-- MOV AL from a byte of the data segment, whatever its cell is
reads : (p : Program) (r : ResidentState) (offset : ℕ) (x : Cell) (way : Astray) → r.half ≡ false → r.cells (address r.registers.ds offset) ≡ x → ((next : ℕ → Outcome) → known_then x next ≡ Err way) → effect_of p r (load_al offset) ≡ Err way
unfolding act byte_then in_segment offset_of usual_segment
reads p r offset x way half cell e =
    by_tree p r (load_al offset) way half
    (read_tree p r (address r.registers.ds offset) (λ v. Done (with_byte_reg (past (load_al offset) r.registers) byte.Al v)) x way cell e)

pub reads_unknown : (p : Program) (r : ResidentState) (offset : ℕ) → r.half ≡ false → r.cells (address r.registers.ds offset) ≡ Unknown → effect_of p r (load_al offset) ≡ Err ReadsUnknown
reads_unknown p r offset half cell = reads p r offset Unknown ReadsUnknown half cell (λ next. refl)

pub touches_kept : (p : Program) (r : ResidentState) (offset : ℕ) → r.half ≡ false → r.cells (address r.registers.ds offset) ≡ Kept → effect_of p r (load_al offset) ≡ Err TouchesKept
touches_kept p r offset half cell = reads p r offset Kept TouchesKept half cell (λ next. refl)

pub touches_return : (p : Program) (r : ResidentState) (offset : ℕ) → r.half ≡ false → r.cells (address r.registers.ds offset) ≡ Paired → effect_of p r (load_al offset) ≡ Err TouchesReturn
touches_return p r offset half cell = reads p r offset Paired TouchesReturn half cell (λ next. refl)

-- MOV SS with another value
pub moves_stack : (p : Program) (r : ResidentState) (w : WordReg) → r.half ≡ false → word_reg r.registers w ≢ r.registers.ss → effect_of p r (instr.MovToSeg seg.Ss (word_rm.Reg w)) ≡ Err MovesStack
unfolding act word_then
moves_stack p r w half apart =
    let g : Registers = past (instr.MovToSeg seg.Ss (word_rm.Reg w)) r.registers in
    let h : Registers = with_data_seg g seg.Ss (word_reg g w) in
    let same : word_reg g w ≡ word_reg r.registers w = grind arith in
    by_tree p r (instr.MovToSeg seg.Ss (word_rm.Reg w)) MovesStack half
    (ap (λ b. if b then plainly (with_memory r h r.cells) else Err MovesStack) (ne_eqb (word_reg g w) r.registers.ss (λ e. apart (sym same ∙ e))))

set_back : (a b : Bool) (o : Outcome) → a ≡ false → b ≡ true → (if not a && b then Err Uninstalls else o) ≡ Err Uninstalls
set_back true b o e f = absurd (cc)
set_back false true o e f = refl
set_back false false o e f = absurd (cc)

-- MOV of 0 to the installed flag, which is not 0
pub uninstalls : (p : Program) (r : ResidentState) (offset flag : ℕ) → r.half ≡ false → p.installed ≡ address r.registers.ds offset → r.cells p.installed ≡ Known flag → flag ≢ 0 → effect_of p r (instr.MovImmediate (immediate.Byte (byte_at offset) 0)) ≡ Err Uninstalls
unfolding effect_of act put_byte in_segment offset_of usual_segment
uninstalls p r offset flag half place known apart =
    let i : Instr = instr.MovImmediate (immediate.Byte (byte_at offset) 0) in
    let g : Registers = past i r.registers in
    let at : ℕ = address r.registers.ds offset in
    let t : ResidentState = with_memory r g (with_cell r.cells at (Known 0)) in
    let cell : r.cells at ≡ Known flag = ap r.cells (sym place) ∙ known in
    let written : plain_effect p r i ≡ Ok (t, NoService) =
    ap (λ z. free_then z (if r.registers.ss == r.registers.ss then plainly t else Err MovesStack)) cell ∙ same_stack r (plainly t) in
    let whole : Outcome = if r.half then completed p r i else plain_effect p r i in
    let same : whole ≡ Ok (t, NoService) = subst (λ b. (if b then completed p r i else plain_effect p r i) ≡ Ok (t, NoService)) (sym half) written in
    let new : t.cells p.installed ≡ Known 0 = ap t.cells place ∙ with_cell-same r.cells at (Known 0) in
    let before : is_zero (r.cells p.installed) ≡ false = ap is_zero known ∙ ne_eqb flag 0 apart in
    let now : is_zero (t.cells p.installed) ≡ true = ap is_zero new in
    ap (λ o. and_then o (kept_installed p r)) same ∙ set_back (is_zero (r.cells p.installed)) (is_zero (t.cells p.installed)) (Ok (t, NoService)) before now

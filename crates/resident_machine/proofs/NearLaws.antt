-- A near call after PUSH CS makes a return pair whole, on both sides.
use Rattle.std.proofs.Common.{◌≡◌, ◌≢◌, ℕ, ◌+◌, ◌%◌, ◌<◌, true, false, List, ◌∷◌, Option, Some, None, Ok, refl, sym, ap, ◌∙◌, subst, arith}
use Rattle.std.specs.Prelude.{IsTrue, slice_index}
use Rattle.x86_table.specs.declared.instr.Instr.{Instr}
use Rattle.x86_table.specs.declared.instr.Instr.TheVariants as instr
use Rattle.x86_table.specs.declared.operand.SegReg.{SegReg}
use Rattle.x86_table.specs.declared.operand.SegReg.TheVariants as seg
use Rattle.x86_table.specs.declared.operand.WordOperand.{WordOperand}
use Rattle.x86_table.specs.declared.operand.WordOperand.TheVariants as word_rm
use Rattle.cpu_8086.specs.declared.machine.Event.{Event}
use Rattle.cpu_8086.specs.declared.registers.Registers.{Registers}
use Rattle.cpu_8086.specs.Access.{Act, lowered, at_offset, on_memory, in_segment, read_word, word_then}
use Rattle.cpu_8086.specs.Effect.{act, call_to}
use Rattle.cpu_8086.specs.Memory.{address, next_offset, word_of, low_byte, high_byte, store_byte, store_word}
use Rattle.cpu_8086.specs.Operand.{word_reg, offset_of, usual_segment}
use Rattle.cpu_8086.specs.Process.{Process, after_step}
use Rattle.cpu_8086.specs.State.{State}
use Rattle.cpu_8086.specs.Step.{past}
use Rattle.cpu_8086.proofs.MemoryLaws.{address-next}
use Rattle.resident_machine.specs.Program.{Program}
use Rattle.resident_machine.specs.Cells.{Known, Paired, Cells, with_cell, with_word, is_free, known_then, free_then}
use Rattle.resident_machine.specs.Dos.{plainly}
use Rattle.resident_machine.specs.Effect.{with_memory, on_cells, plain_effect, is_near_call, made_whole, stack_then}
use Rattle.resident_machine.specs.Standing.{number_of, PairWord, words_of, with_half, HoldsMemory, StandsFor}
use Rattle.resident_machine.specs.State.{Record, ResidentState, Service, NoService}
use Rattle.resident_machine.proofs.CellLaws.{with_cell-other, known_ok, free_ok, stack_ok, ok_same}
use Rattle.resident_machine.proofs.DosLaws.{lands}
use Rattle.resident_machine.proofs.HoldLaws.{IsPushed, memory_pushed, with_word-pushed}
use Rattle.resident_machine.proofs.TreeLaws.{same_word, arrived, stands_arrived}

-- What an operand holds is the same on both sides.
pub record ReadsAlike (p : Program) (r : ResidentState) (s : State) (c : Cells) (m : List ℕ) (a : Act) (next : ℕ → Act) (w : ResidentState × Service) : Type 0 where
  pub value : ℕ
  pub cells : on_cells p r (next value) c ≡ Ok w
  pub memory : on_memory s a m ≡ on_memory s (next value) m

module _ (p : Program) (r : ResidentState) (s : State) (c : Cells) (m : List ℕ) (known : (place v : ℕ) → c place ≡ Known v → slice_index m place ≡ v) (w : ResidentState × Service) where
  in_segment_alike : (g : Registers) (usual : ℕ) (o : Option SegReg) (next : ℕ → Act) → on_cells p r (in_segment g usual o next) c ≡ Ok w → ReadsAlike p r s c m (in_segment g usual o next) next w
  unfolding in_segment
  in_segment_alike g usual None next e = record { value = usual; cells = e; memory = refl }
  in_segment_alike g usual (Some seg.Es) next e = record { value = g.es; cells = e; memory = refl }
  in_segment_alike g usual (Some seg.Cs) next e = absurd (cc)
  in_segment_alike g usual (Some seg.Ss) next e = record { value = g.ss; cells = e; memory = refl }
  in_segment_alike g usual (Some seg.Ds) next e = record { value = g.ds; cells = e; memory = refl }

  read_word_alike : (segment offset : ℕ) (next : ℕ → Act) → on_cells p r (read_word segment offset next) c ≡ Ok w → ReadsAlike p r s c m (read_word segment offset next) next w
  read_word_alike segment offset next e =
      let first = known_ok (c (address segment offset)) (λ low. known_then (c (address segment (next_offset offset))) (λ high. on_cells p r (next (word_of low high)) c)) w e in
      let second = known_ok (c (address segment (next_offset offset))) (λ high. on_cells p r (next (word_of first.0 high)) c) w first.2 in
      let low = known (address segment offset) first.0 first.1 in
      let high = known (address segment (next_offset offset)) second.0 second.1 in
      record {
        value = word_of first.0 second.0;
        cells = second.2;
        memory = ap (λ x. on_memory s (next (word_of x (slice_index m (address segment (next_offset offset))))) m) low ∙ ap (λ x. on_memory s (next (word_of first.0 x)) m) high;
      }

  word_alike : (g : Registers) (o : WordOperand) (next : ℕ → Act) → on_cells p r (word_then g o next) c ≡ Ok w → ReadsAlike p r s c m (word_then g o next) next w
  unfolding word_then
  word_alike g (word_rm.Reg x) next e = record { value = word_reg g x; cells = e; memory = refl }
  word_alike g (word_rm.Mem x) next e =
      let first = in_segment_alike g (usual_segment g x.place) x.segment (λ segment. read_word segment (offset_of g x.place) next) e in
      let second = read_word_alike first.value (offset_of g x.place) next first.cells in
      record { value = second.value; cells = second.cells; memory = first.memory ∙ second.memory }

-- the words of half a record and of its other half are those of the record
pub raised-lowered : (sp : ℕ) → sp < 65536 → sp ≡ ((sp + 65534) % 65536 + 2) % 65536
raised-lowered sp lt = omega arith

-- Of the cells only those of the word that was pushed differ.
pub near_pushed : (c : Cells) (ss offset low high : ℕ) → offset < 65536 → IsPushed ss offset c (with_word (with_cell (with_cell c (address ss offset) (Known low)) (address ss (next_offset offset)) (Known high)) ss offset Paired)
near_pushed c ss offset low high lt =
    let before : Cells = with_cell (with_cell c (address ss offset) (Known low)) (address ss (next_offset offset)) (Known high) in
    let pushed = with_word-pushed before ss offset lt in
    record {
      low = pushed.low;
      high = pushed.high;
      others = λ place l h. pushed.others place l h ∙ with_cell-other (with_cell c (address ss offset) (Known low)) (address ss (next_offset offset)) (Known high) place h ∙ with_cell-other c (address ss offset) (Known low) place l;
    }

module _ (p : Program) (r : ResidentState) (q : Process) (s : StandsFor p r q) (half : r.half ≡ true) where
  -- memory before the call, with the word at SP
  half_held : HoldsMemory p r.registers.ss r.cells q.machine.memory (record { offset = r.registers.sp; value = number_of r.cs } ∷ words_of r.records)
  half_held = subst (λ b. HoldsMemory p r.registers.ss r.cells q.machine.memory (with_half b r.registers.sp (number_of r.cs) (words_of r.records))) half s.memory

  call_whole : (g : Registers) (offset : ℕ) (v w : ResidentState × Service) → g.sp ≡ r.registers.sp → g.ss ≡ r.registers.ss → on_cells p r (call_to g offset) r.cells ≡ Ok v → made_whole r g.ip v ≡ Ok w → StandsFor p w.0 (after_step q (on_memory q.machine (call_to g offset) q.machine.memory).0 (on_memory q.machine (call_to g offset) q.machine.memory).1)
  unfolding store_word store_byte
  call_whole g offset v w sp ss e made =
      let c : Cells = r.cells in
      let m : List ℕ = q.machine.memory in
      let top : ℕ = (lowered g).sp in
      let a0 : ℕ = address g.ss top in
      let a1 : ℕ = address g.ss (next_offset top) in
      let c1 : Cells = with_cell c a0 (Known (low_byte g.ip)) in
      let c2 : Cells = with_cell c1 a1 (Known (high_byte g.ip)) in
      let h : Registers = at_offset (lowered g) offset in
      let one = free_ok (c a0) (free_then (c1 a1) (stack_then r h (plainly (with_memory r h c2)))) v e in
      let two = free_ok (c1 a1) (stack_then r h (plainly (with_memory r h c2))) v one.1 in
      let end = stack_ok r h (plainly (with_memory r h c2)) v two.1 in
      let is : (let x : ResidentState × Service = (with_memory r h c2, NoService) in x ≡ v) = ok_same (with_memory r h c2, NoService) v end.1 in
      let made' = subst (λ (z : ResidentState × Service). made_whole r g.ip z ≡ Ok w) (sym is) made in
      let lt : top < 65536 = omega arith in
      let apart : a1 ≢ a0 = λ same. address-next g.ss top lt (sym same) in
      let free1 : IsTrue (is_free (c a1)) = subst (λ z. IsTrue (is_free z)) (with_cell-other c a0 (Known (low_byte g.ip)) a1 apart) two.0 in
      let d : Cells = with_word c2 g.ss top Paired in
      let before = subst (λ z. HoldsMemory p z c m (record { offset = r.registers.sp; value = number_of r.cs } ∷ words_of r.records)) (sym ss) half_held in
      let held = memory_pushed p g.ss c d m (record { offset = r.registers.sp; value = number_of r.cs } ∷ words_of r.records) top g.ip before lt one.0 free1 (near_pushed c g.ss top (low_byte g.ip) (high_byte g.ip) lt) in
      let fits : r.registers.sp < 65536 = half_held.words.0.fits in
      let second : r.registers.sp ≡ (top + 2) % 65536 = sym sp ∙ raised-lowered g.sp (subst (λ z. z < 65536) (sym sp) fits) in
      let words = subst (λ (z : PairWord). HoldsMemory p g.ss d (store_word m g.ss top g.ip) (record { offset = top; value = g.ip } ∷ z ∷ words_of r.records))
      (same_word r.registers.sp ((top + 2) % 65536) (number_of r.cs) (number_of r.cs) second refl) held in
      let records : List Record = record { place = top; segment = r.cs; offset = g.ip } ∷ r.records in
      lands p _ (arrived r h r.cs d records false) NoService w made'
      (stands_arrived p r q h h r.cs q.machine.cs d (store_word m g.ss top g.ip) records false s refl s.cs words)

  by_call : (g : Registers) (a : Act) (offset : ℕ) (v w : ResidentState × Service) → g.sp ≡ r.registers.sp → g.ss ≡ r.registers.ss → on_cells p r (call_to g offset) r.cells ≡ Ok v → made_whole r g.ip v ≡ Ok w → on_memory q.machine a q.machine.memory ≡ on_memory q.machine (call_to g offset) q.machine.memory → StandsFor p w.0 (after_step q (on_memory q.machine a q.machine.memory).0 (on_memory q.machine a q.machine.memory).1)
  by_call g a offset v w sp ss e made same = subst (λ (z : State × Event). StandsFor p w.0 (after_step q z.0 z.1)) (sym same) (call_whole g offset v w sp ss e made)

  -- the two near calls
  near_at : (g : Registers) (i : Instr) (v w : ResidentState × Service) → is_near_call i ≡ true → g.sp ≡ r.registers.sp → g.ss ≡ r.registers.ss → on_cells p r (act g i) r.cells ≡ Ok v → made_whole r g.ip v ≡ Ok w → StandsFor p w.0 (after_step q (on_memory q.machine (act g i) q.machine.memory).0 (on_memory q.machine (act g i) q.machine.memory).1)
  unfolding act
  near_at g (instr.CallNear d) v w near sp ss e made = call_whole g ((g.ip + d) % 65536) v w sp ss e made
  near_at g (instr.CallIndirect o) v w near sp ss e made =
      let x = word_alike p r q.machine r.cells q.machine.memory s.memory.known v g o (λ z. call_to g z) e in
      by_call g (word_then g o (λ z. call_to g z)) x.value v w sp ss x.cells made x.memory
  near_at g _ v w near sp ss e made = absurd (cc)

  pub near_stands : (i : Instr) (v w : ResidentState × Service) → is_near_call i ≡ true → plain_effect p r i ≡ Ok v → made_whole r (past i r.registers).ip v ≡ Ok w → StandsFor p w.0 (after_step q (on_memory q.machine (act (past i r.registers) i) q.machine.memory).0 (on_memory q.machine (act (past i r.registers) i) q.machine.memory).1)
  near_stands i v w near e made = near_at (past i r.registers) i v w near refl refl e made

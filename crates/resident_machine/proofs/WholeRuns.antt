-- Whole states stay whole over near calls that complete a pair, steps and runs.
use Rattle.std.proofs.Common.{◌≡◌, ◌≢◌, ℕ, zero, suc, ◌+◌, ◌-◌, ◌%◌, ◌<◌, ◌≤◌, ◌==◌, ◌&&◌, not, Bool, true, false, List, ◌∷◌, ◌++◌, length, drop, Option, Some, None, Ok, Err, refl, sym, ap, ◌∙◌, subst, arith, eqb-true, length-append, length-drop}
use Rattle.std.specs.Prelude.{IsTrue, if◌then◌else◌, slice_index}
use Rattle.x86_table.specs.declared.instr.Instr.{Instr}
use Rattle.x86_table.specs.declared.instr.Instr.TheVariants as instr
use Rattle.x86_table.specs.declared.operand.SegReg.{SegReg}
use Rattle.x86_table.specs.declared.operand.SegReg.TheVariants as seg
use Rattle.x86_table.specs.declared.operand.WordOperand.{WordOperand}
use Rattle.x86_table.specs.declared.operand.WordOperand.TheVariants as word_rm
use Rattle.x86_table.specs.Spelling.{spelling}
use Rattle.x86_table.proofs.Spellings.{spelling_bounds}
use Rattle.cpu_8086.specs.declared.registers.Registers.{Registers}
use Rattle.cpu_8086.specs.Access.{Act, lowered, at_offset, in_segment, read_word, word_then}
use Rattle.cpu_8086.specs.Effect.{act, call_to}
use Rattle.cpu_8086.specs.Memory.{address, next_offset, word_of, low_byte, high_byte}
use Rattle.cpu_8086.specs.Operand.{word_reg, offset_of, usual_segment}
use Rattle.cpu_8086.specs.Process.{Process}
use Rattle.cpu_8086.specs.Step.{past}
use Rattle.cpu_8086.proofs.MemoryLaws.{address-next}
use Rattle.resident_machine.specs.Program.{Image, Program, code_of}
use Rattle.resident_machine.specs.Astray.{LeavesHalf, Uninstalls, and_then}
use Rattle.resident_machine.specs.Cells.{Cell, Known, Unknown, Kept, Paired, Cells, with_cell, with_word, is_free, known_then, free_then}
use Rattle.resident_machine.specs.Dos.{plainly}
use Rattle.resident_machine.specs.Effect.{Outcome, with_memory, on_cells, plain_effect, is_near_call, made_whole, completed, is_zero, kept_installed, stack_then, effect_of}
use Rattle.resident_machine.specs.Run.{StandsAt, Goes, Runs}
use Rattle.resident_machine.specs.State.{Record, ResidentState, Service, NoService}
use Rattle.resident_machine.specs.Start.{resident_start}
use Rattle.resident_machine.specs.Whole.{offsets_of, half_offsets, ArePaired, IsNamed, IsReturn, HasSmallOverlays, IsWhole}
use Rattle.resident_machine.proofs.CallLaws.{act_calls}
use Rattle.resident_machine.proofs.CellLaws.{with_cell-other, known_ok, free_ok, and_then_ok, unless_ok, stack_ok, ok_same}
use Rattle.resident_machine.proofs.FirmLaws.{Firm, firm_pushed}
use Rattle.resident_machine.proofs.NearLaws.{near_pushed, raised-lowered}
use Rattle.resident_machine.proofs.StartLaws.{kept_cell}
use Rattle.resident_machine.proofs.WholeLaws.{Comes, comes, tree_comes}

-- what follows an operand's value
pub record GoesOn (p : Program) (r : ResidentState) (c : Cells) (next : ℕ → Act) (w : ResidentState × Service) : Type 0 where
  pub value : ℕ
  pub goes_on : on_cells p r (next value) c ≡ Ok w

module _ (p : Program) (r : ResidentState) (c : Cells) (w : ResidentState × Service) where
  in_segment_on : (g : Registers) (usual : ℕ) (o : Option SegReg) (next : ℕ → Act) → on_cells p r (in_segment g usual o next) c ≡ Ok w → GoesOn p r c next w
  unfolding in_segment
  in_segment_on g usual None next e = record { value = usual; goes_on = e }
  in_segment_on g usual (Some seg.Es) next e = record { value = g.es; goes_on = e }
  in_segment_on g usual (Some seg.Cs) next e = absurd (cc)
  in_segment_on g usual (Some seg.Ss) next e = record { value = g.ss; goes_on = e }
  in_segment_on g usual (Some seg.Ds) next e = record { value = g.ds; goes_on = e }

  read_word_on : (segment offset : ℕ) (next : ℕ → Act) → on_cells p r (read_word segment offset next) c ≡ Ok w → GoesOn p r c next w
  read_word_on segment offset next e =
      let first = known_ok (c (address segment offset)) (λ low. known_then (c (address segment (next_offset offset))) (λ high. on_cells p r (next (word_of low high)) c)) w e in
      let second = known_ok (c (address segment (next_offset offset))) (λ high. on_cells p r (next (word_of first.0 high)) c) w first.2 in
      record { value = word_of first.0 second.0; goes_on = second.2 }

  word_on : (g : Registers) (o : WordOperand) (next : ℕ → Act) → on_cells p r (word_then g o next) c ≡ Ok w → GoesOn p r c next w
  unfolding word_then
  word_on g (word_rm.Reg x) next e = record { value = word_reg g x; goes_on = e }
  word_on g (word_rm.Mem x) next e =
      let first = in_segment_on g (usual_segment g x.place) x.segment (λ segment. read_word segment (offset_of g x.place) next) e in
      read_word_on first.value (offset_of g x.place) next first.goes_on

module _ (p : Program) (kept : ℕ → Bool) (r : ResidentState) (whole : IsWhole p kept r) (half : r.half ≡ true) (ip : ℕ) (fresh : (place : ℕ) → IsReturn p (record { place = place; segment = r.cs; offset = ip })) where
  half_paired : ArePaired r.registers.ss r.cells (r.registers.sp ∷ offsets_of r.records)
  half_paired = subst (λ b. ArePaired r.registers.ss r.cells (half_offsets b r.registers.sp (offsets_of r.records))) half whole.paired

  call_comes : (g : Registers) (offset : ℕ) (v w : ResidentState × Service) → g.ip ≡ ip → g.sp ≡ r.registers.sp → g.ss ≡ r.registers.ss → on_cells p r (call_to g offset) r.cells ≡ Ok v → made_whole r g.ip v ≡ Ok w → Comes p kept r w.0
  call_comes g offset v w here sp ss e made =
      let c : Cells = r.cells in
      let top : ℕ = (lowered g).sp in
      let a0 : ℕ = address g.ss top in
      let a1 : ℕ = address g.ss (next_offset top) in
      let c1 : Cells = with_cell c a0 (Known (low_byte g.ip)) in
      let c2 : Cells = with_cell c1 a1 (Known (high_byte g.ip)) in
      let h : Registers = at_offset (lowered g) offset in
      let one = free_ok (c a0) (free_then (c1 a1) (stack_then r h (plainly (with_memory r h c2)))) v e in
      let two = free_ok (c1 a1) (stack_then r h (plainly (with_memory r h c2))) v one.1 in
      let end = stack_ok r h (plainly (with_memory r h c2)) v two.1 in
      let is : (let x : ResidentState × Service = (with_memory r h c2, NoService) in x ≡ v) = ok_same (with_memory r h c2, NoService) v end.1 in
      let made' = subst (λ (z : ResidentState × Service). made_whole r g.ip z ≡ Ok w) (sym is) made in
      let lt : top < 65536 = omega arith in
      let apart : a1 ≢ a0 = λ same. address-next g.ss top lt (sym same) in
      let free1 : IsTrue (is_free (c a1)) = subst (λ z. IsTrue (is_free z)) (with_cell-other c a0 (Known (low_byte g.ip)) a1 apart) two.0 in
      let d : Cells = with_word c2 g.ss top Paired in
      let before = subst (λ z. Firm kept z c (r.registers.sp ∷ offsets_of r.records)) (sym ss) (record { stays = whole.stays; paired = half_paired }) in
      let firm = firm_pushed kept g.ss c d (r.registers.sp ∷ offsets_of r.records) top lt one.0 free1 (near_pushed c g.ss top (low_byte g.ip) (high_byte g.ip) lt) before in
      let fits : r.registers.sp < 65536 = half_paired.0.fits in
      let second : r.registers.sp ≡ (top + 2) % 65536 = sym sp ∙ raised-lowered g.sp (subst (λ z. z < 65536) (sym sp) fits) in
      let words = subst (λ z. Firm kept g.ss d (top ∷ z ∷ offsets_of r.records)) second firm in
      let records : List Record = record { place = top; segment = r.cs; offset = g.ip } ∷ r.records in
      comes p kept r (record r { registers = h; cells = d; records = records; half = false }) NoService w made' (record {
        named = whole.named;
        returns = (subst (λ z. IsReturn p (record { place = top; segment = r.cs; offset = z })) (sym here) (fresh top), whole.returns);
        stays = words.stays;
        paired = words.paired;
        outside = λ out unset. record { cs = out.cs; records = (out.cs, out.records) };
      })

  near_comes : (g : Registers) (i : Instr) (v w : ResidentState × Service) → is_near_call i ≡ true → g.ip ≡ ip → g.sp ≡ r.registers.sp → g.ss ≡ r.registers.ss → on_cells p r (act g i) r.cells ≡ Ok v → made_whole r g.ip v ≡ Ok w → Comes p kept r w.0
  unfolding act
  near_comes g (instr.CallNear d) v w near here sp ss e made = call_comes g ((g.ip + d) % 65536) v w here sp ss e made
  near_comes g (instr.CallIndirect o) v w near here sp ss e made =
      let x = word_on p r r.cells v g o (λ z. call_to g z) e in call_comes g x.value v w here sp ss x.goes_on made
  near_comes g _ v w near here sp ss e made = absurd (cc)

-- ## Steps and runs

-- an instruction that stands whole in an overlay ends behind its first byte
behind : (n : ℕ) (xs ys rest : List ℕ) → drop n xs ≡ ys ++ rest → 1 ≤ length ys → length xs < 65536 → 0 < (n + length ys) % 65536
behind n xs ys rest e one lt =
    let size : length xs - n ≡ length ys + length rest = sym (length-drop n xs) ∙ ap length e ∙ length-append ys rest in
    omega arith

fresh_return : (p : Program) (r : ResidentState) (i : Instr) → HasSmallOverlays p → StandsAt p r i → (place : ℕ) → IsReturn p (record { place = place; segment = r.cs; offset = (past i r.registers).ip })
fresh_return p r i small at place = record {
  named = (at.code, at.named);
  fits = omega arith;
  positive = λ overlay cs. behind r.registers.ip at.code (spelling i) at.rest at.spelled (spelling_bounds i).0 (small overlay at.code (ap (code_of p) (sym cs) ∙ at.named));
}

performed_comes : (p : Program) (kept : ℕ → Bool) (r : ResidentState) (i : Instr) (w : ResidentState × Service) → HasSmallOverlays p → StandsAt p r i → IsWhole p kept r → (if r.half then completed p r i else plain_effect p r i) ≡ Ok w → Comes p kept r w.0
performed_comes p kept r i w small at whole e = by r.half refl e
  where
    by : (b : Bool) → r.half ≡ b → (if b then completed p r i else plain_effect p r i) ≡ Ok w → Comes p kept r w.0
    by false h e = tree_comes p kept r whole h (past i r.registers).ip (fresh_return p r i small at) (act (past i r.registers) i) r.cells w (act_calls (past i r.registers) i)
        (record { stays = whole.stays; paired = subst (λ b. ArePaired r.registers.ss r.cells (half_offsets b r.registers.sp (offsets_of r.records))) h whole.paired }) e
    by true h e =
        let near = unless_ok (is_near_call i) (and_then (plain_effect p r i) (made_whole r (past i r.registers).ip)) LeavesHalf w e in
        let parts = and_then_ok (plain_effect p r i) (made_whole r (past i r.registers).ip) w near.1 in
        near_comes p kept r whole h (past i r.registers).ip (fresh_return p r i small at) (past i r.registers) i parts.0 w near.0 refl refl refl parts.1 parts.2

-- the installed flag was 0 where it is 0 afterwards
was_zero : (x y : Cell) (o : Outcome) (w : ResidentState × Service) → (if not (is_zero x) && is_zero y then Err Uninstalls else o) ≡ Ok w → y ≡ Known 0 → x ≡ Known 0
was_zero (Known v) y o w e unset = by (v == 0) refl e
  where
    now : is_zero y ≡ true
    now = ap is_zero unset

    by : (b : Bool) → (v == 0) ≡ b → (if not b && is_zero y then Err Uninstalls else o) ≡ Ok w → Known v ≡ Known 0
    by true same e = ap Known (eqb-true v 0 same)
    by false same e = let f = subst (λ z. (if z then Err Uninstalls else o) ≡ Ok w) now e in absurd (cc)
was_zero Unknown y o w e unset = let f = subst (λ z. (if z then Err Uninstalls else o) ≡ Ok w) (ap is_zero unset) e in absurd (cc)
was_zero Kept y o w e unset = let f = subst (λ z. (if z then Err Uninstalls else o) ≡ Ok w) (ap is_zero unset) e in absurd (cc)
was_zero Paired y o w e unset = let f = subst (λ z. (if z then Err Uninstalls else o) ≡ Ok w) (ap is_zero unset) e in absurd (cc)

guarded : (b : Bool) (x w : ResidentState × Service) → (if b then Err Uninstalls else Ok x) ≡ Ok w → x ≡ w
guarded true x w e = absurd (cc)
guarded false x w e = ok_same x w e

effect_whole : (p : Program) (kept : ℕ → Bool) (r : ResidentState) (i : Instr) (w : ResidentState × Service) → HasSmallOverlays p → StandsAt p r i → IsWhole p kept r → effect_of p r i ≡ Ok w → IsWhole p kept w.0
unfolding effect_of
effect_whole p kept r i w small at whole e =
    let parts = and_then_ok (if r.half then completed p r i else plain_effect p r i) (kept_installed p r) w e in
    let same = guarded (not (is_zero (r.cells p.installed)) && is_zero (parts.0.0.cells p.installed)) parts.0 w parts.2 in
    let h = performed_comes p kept r i parts.0 small at whole parts.1 in
    let ends : IsWhole p kept parts.0.0 = record {
      named = h.named;
      returns = h.returns;
      stays = h.stays;
      paired = h.paired;
      outside = λ unset. h.outside (whole.outside (was_zero (r.cells p.installed) (parts.0.0.cells p.installed) (Ok parts.0) w parts.2 unset)) unset;
    } in
    subst (λ (z : ResidentState × Service). IsWhole p kept z.0) same ends

pub goes_whole : (p : Program) (kept : ℕ → Bool) (r t : ResidentState) (service : Service) → HasSmallOverlays p → IsWhole p kept r → Goes p r t service → IsWhole p kept t
goes_whole p kept r t service small whole g = effect_whole p kept r g.instruction (t, service) small g.stands whole g.result

pub runs_whole : (p : Program) (kept : ℕ → Bool) (n : ℕ) (r t : ResidentState) → HasSmallOverlays p → IsWhole p kept r → Runs p n r t → IsWhole p kept t
runs_whole p kept zero r t small whole e = subst (IsWhole p kept) e whole
runs_whole p kept (suc n) r t small whole x = runs_whole p kept n x.0 t small (goes_whole p kept r x.0 x.1 small whole x.2) x.3

pub start_whole : (p : Program) (kept : ℕ → Bool) (number : ℕ) (q : Process) → IsNamed p (Image number) → IsWhole p kept (resident_start kept (Image number) q)
start_whole p kept number q named = record {
  named = named;
  returns = tt;
  stays = λ place e. kept_cell (kept place) (slice_index q.machine.memory place) e;
  paired = tt;
  outside = λ unset. record { cs = tt; records = tt };
}

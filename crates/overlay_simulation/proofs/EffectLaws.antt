-- Effects and steps of the resident machine, beside those of the program without overlays.
use Rattle.std.proofs.Common.{◌≡◌, ℕ, ◌+◌, ◌%◌, ◌==◌, ◌&&◌, not, Bool, true, false, List, ◌∷◌, Option, Some, None, Ok, Err, refl, sym, ap, ap₂, ◌∙◌, subst, eqb-true}
use Rattle.std.specs.Prelude.{if◌then◌else◌}
use Rattle.x86_table.specs.declared.instr.Instr.{Instr}
use Rattle.x86_table.specs.declared.instr.Instr.TheVariants as instr
use Rattle.x86_table.specs.declared.operand.SegReg.{SegReg}
use Rattle.x86_table.specs.declared.operand.SegReg.TheVariants as seg
use Rattle.x86_table.specs.declared.operand.WordOperand.{WordOperand}
use Rattle.x86_table.specs.declared.operand.WordOperand.TheVariants as word_rm
use Rattle.cpu_8086.specs.declared.registers.Registers.{Registers}
use Rattle.cpu_8086.specs.Access.{Act, lowered, at_offset, in_segment, read_word, word_then}
use Rattle.cpu_8086.specs.Effect.{act, call_to}
use Rattle.cpu_8086.specs.Memory.{address, next_offset, word_of, low_byte, high_byte}
use Rattle.cpu_8086.specs.Operand.{word_reg, offset_of, usual_segment}
use Rattle.cpu_8086.specs.Step.{past}
use Rattle.resident_machine.specs.Program.{Program}
use Rattle.resident_machine.specs.Astray.{LeavesHalf, Uninstalls, and_then}
use Rattle.resident_machine.specs.Cells.{Cell, Known, Unknown, Kept, Paired, Cells, with_cell, with_word, known_then, free_then}
use Rattle.resident_machine.specs.Dos.{plainly}
use Rattle.resident_machine.specs.Effect.{Outcome, with_memory, on_cells, plain_effect, is_near_call, made_whole, completed, is_zero, kept_installed, stack_then, effect_of}
use Rattle.resident_machine.specs.State.{Record, ResidentState, Service, NoService}
use Rattle.resident_machine.proofs.CellLaws.{known_ok, free_ok, and_then_ok, unless_ok, stack_ok, ok_same}
use Rattle.return_repair.specs.declared.table.Loaded.{Loaded}
use Rattle.overlay_simulation.specs.Shown.{IsIn, shown_state}
use Rattle.overlay_simulation.proofs.ShownLaws.{HasOwnStubs, laid_in, topmost_in}
use Rattle.overlay_simulation.proofs.MirrorLaws.{bare, Mirrors, Leads, Mirrored, tree_mirrored}

-- ## No service follows a near call

module _ (p : Program) (r : ResidentState) where
  call_service : (g : Registers) (offset : ℕ) (c : Cells) (v : ResidentState × Service) → on_cells p r (call_to g offset) c ≡ Ok v → v.1 ≡ NoService
  call_service g offset c v e =
      let top : ℕ = (lowered g).sp in
      let a0 : ℕ = address g.ss top in
      let a1 : ℕ = address g.ss (next_offset top) in
      let c1 : Cells = with_cell c a0 (Known (low_byte g.ip)) in
      let c2 : Cells = with_cell c1 a1 (Known (high_byte g.ip)) in
      let h : Registers = at_offset (lowered g) offset in
      let one = free_ok (c a0) (free_then (c1 a1) (stack_then r h (plainly (with_memory r h c2)))) v e in
      let two = free_ok (c1 a1) (stack_then r h (plainly (with_memory r h c2))) v one.1 in
      let end = stack_ok r h (plainly (with_memory r h c2)) v two.1 in
      sym (ap (λ (z : ResidentState × Service). z.1) (ok_same (with_memory r h c2, NoService) v end.1))

  abbrev Ends : Act → Cells → (ResidentState × Service) → Type 0
  Ends a c v = on_cells p r a c ≡ Ok v → v.1 ≡ NoService

  in_segment_service : (g : Registers) (usual : ℕ) (o : Option SegReg) (next : ℕ → Act) (c : Cells) (v : ResidentState × Service) → ((n : ℕ) → Ends (next n) c v) → Ends (in_segment g usual o next) c v
  unfolding in_segment
  in_segment_service g usual None next c v h e = h usual e
  in_segment_service g usual (Some seg.Es) next c v h e = h g.es e
  in_segment_service g usual (Some seg.Cs) next c v h e = absurd (cc)
  in_segment_service g usual (Some seg.Ss) next c v h e = h g.ss e
  in_segment_service g usual (Some seg.Ds) next c v h e = h g.ds e

  read_word_service : (segment offset : ℕ) (next : ℕ → Act) (c : Cells) (v : ResidentState × Service) → ((n : ℕ) → Ends (next n) c v) → Ends (read_word segment offset next) c v
  read_word_service segment offset next c v h e =
      let first = known_ok (c (address segment offset)) (λ low. known_then (c (address segment (next_offset offset))) (λ high. on_cells p r (next (word_of low high)) c)) v e in
      let second = known_ok (c (address segment (next_offset offset))) (λ high. on_cells p r (next (word_of first.0 high)) c) v first.2 in
      h (word_of first.0 second.0) second.2

  word_service : (g : Registers) (o : WordOperand) (next : ℕ → Act) (c : Cells) (v : ResidentState × Service) → ((n : ℕ) → Ends (next n) c v) → Ends (word_then g o next) c v
  unfolding word_then
  word_service g (word_rm.Reg x) next c v h e = h (word_reg g x) e
  word_service g (word_rm.Mem x) next c v h e =
      in_segment_service g (usual_segment g x.place) x.segment (λ segment. read_word segment (offset_of g x.place) next) c v
      (λ segment. read_word_service segment (offset_of g x.place) next c v h) e

  pub near_service : (g : Registers) (i : Instr) (c : Cells) (v : ResidentState × Service) → is_near_call i ≡ true → on_cells p r (act g i) c ≡ Ok v → v.1 ≡ NoService
  unfolding act
  near_service g (instr.CallNear d) c v near e = call_service g ((g.ip + d) % 65536) c v e
  near_service g (instr.CallIndirect o) c v near e = word_service g o (λ z. call_to g z) c v (λ z. call_service g z c v) e
  near_service g _ c v near e = absurd (cc)

-- ## The installed flag

pub guarded_ok : (b : Bool) (x w : ResidentState × Service) → (if b then Err Uninstalls else Ok x) ≡ Ok w → (b ≡ false) × (x ≡ w)
guarded_ok true x w e = absurd (cc)
guarded_ok false x w e = (refl, ok_same x w e)

-- whether it became 0
abbrev pub is_uninstalled : Cell → Cell → Bool
is_uninstalled was now = not (is_zero was) && is_zero now

pub was_zero : (was now : Cell) → is_uninstalled was now ≡ false → now ≡ Known 0 → was ≡ Known 0
was_zero (Known v) now kept unset = by (v == 0) refl
  where
    by : (b : Bool) → (v == 0) ≡ b → Known v ≡ Known 0
    by true same = ap Known (eqb-true v 0 same)
    by false same = let e : true ≡ false = sym (ap₂ (λ (x y : Bool). not x && y) same (ap is_zero unset)) ∙ kept in absurd (cc)
was_zero Unknown now kept unset = let e : is_uninstalled Unknown (Known 0) ≡ false = sym (ap (is_uninstalled Unknown) unset) ∙ kept in absurd (cc)
was_zero Kept now kept unset = let e : is_uninstalled Kept (Known 0) ≡ false = sym (ap (is_uninstalled Kept) unset) ∙ kept in absurd (cc)
was_zero Paired now kept unset = let e : is_uninstalled Paired (Known 0) ≡ false = sym (ap (is_uninstalled Paired) unset) ∙ kept in absurd (cc)

-- what an effect does before the flag is looked at
abbrev pub performed : Program → ResidentState → Instr → Outcome
performed p r i = if r.half then completed p r i else plain_effect p r i

pub effect_parts : (p : Program) (r : ResidentState) (i : Instr) (w : ResidentState × Service) → effect_of p r i ≡ Ok w → (performed p r i ≡ Ok w) × (is_uninstalled (r.cells p.installed) (w.0.cells p.installed) ≡ false)
unfolding effect_of
effect_parts p r i w e =
    let parts = and_then_ok (performed p r i) (kept_installed p r) w e in
    let kept = guarded_ok (is_uninstalled (r.cells p.installed) (parts.0.0.cells p.installed)) parts.0 w parts.2 in
    (parts.1 ∙ ap Ok kept.1, subst (λ (z : ResidentState × Service). is_uninstalled (r.cells p.installed) (z.0.cells p.installed) ≡ false) kept.1 kept.0)

pub effect_whole : (p : Program) (r : ResidentState) (i : Instr) (w : ResidentState × Service) → performed p r i ≡ Ok w → is_uninstalled (r.cells p.installed) (w.0.cells p.installed) ≡ false → effect_of p r i ≡ Ok w
unfolding effect_of
effect_whole p r i w e kept = ap (λ (o : Outcome). and_then o (kept_installed p r)) e ∙ rw kept refl

-- ## Effects

-- a near call after PUSH CS
completed_goes : (p : Program) (r : ResidentState) (i : Instr) (v w : ResidentState × Service) → is_near_call i ≡ true → plain_effect p r i ≡ Ok v → made_whole r (past i r.registers).ip v ≡ Ok w → completed p r i ≡ Ok w
completed_goes p r i v w near goes made =
    let whole : Outcome = and_then (plain_effect p r i) (made_whole r (past i r.registers).ip) in
    let first : completed p r i ≡ whole = ap (λ (x : Bool). if x then whole else Err LeavesHalf) near in
    let second : whole ≡ Ok w = ap (λ (o : Outcome). and_then o (made_whole r (past i r.registers).ip)) goes ∙ made in
    first ∙ second

module _ (p : Program) (bytes : ℕ → List ℕ) (table : List Loaded) (met : ℕ → Bool) (own : HasOwnStubs table) (r : ResidentState) (here : IsIn table r.cs) where
  abbrev seen : ResidentState
  seen = shown_state table met r

  -- a pair is made whole on both sides
  whole_mirrored : (ip : ℕ) (t there : ResidentState) (service : Service) (w : ResidentState × Service) → Mirrors table met r t there → made_whole r ip (t, NoService) ≡ Ok w → Mirrored p table met r (made_whole seen ip (there, service)) w
  whole_mirrored ip t there service w h e =
      let x : Record = record { place = t.registers.sp; segment = r.cs; offset = ip } in
      let c : Cells = with_word t.cells t.registers.ss t.registers.sp Paired in
      let after : ResidentState = record t { cells = c; records = x ∷ t.records; half = false } in
      let more = made_whole seen ip (shown_state table met t, service) in
      let same : made_whole seen ip (there, service) ≡ more = ap (λ (z : ResidentState). made_whole seen ip (z, service)) h.state in
      let pairs : more ≡ Ok (shown_state table met after, NoService) = ap (λ (xs : List Record). plainly (record (shown_state table met t) { cells = c; records = xs; half = false })) (sym (laid_in table met x t.records own here)) in
      subst (λ (z : ResidentState × Service). Mirrored p table met r (made_whole seen ip (there, service)) z) (ok_same (after, NoService) w e)
      (record {
        there = shown_state table met after;
        service = NoService;
        goes = same ∙ pairs;
        leads = record { state = refl; cs = h.cs; topmost = λ v out. topmost_in table x t.records own here v out ∙ h.topmost v out };
      })

  performed_mirrored : (i : Instr) (w : ResidentState × Service) → performed p r i ≡ Ok w → Mirrored p table met r (performed (bare p bytes) seen i) w
  performed_mirrored i w e = by r.half e
    where
      by : (b : Bool) → (if b then completed p r i else plain_effect p r i) ≡ Ok w → Mirrored p table met r (if b then completed (bare p bytes) seen i else plain_effect (bare p bytes) seen i) w
      by false e = tree_mirrored p bytes table met own r here (act (past i r.registers) i) r.cells w e
      by true e =
          let ip : ℕ = (past i r.registers).ip in
          let near = unless_ok (is_near_call i) (and_then (plain_effect p r i) (made_whole r ip)) LeavesHalf w e in
          let parts = and_then_ok (plain_effect p r i) (made_whole r ip) w near.1 in
          let first = tree_mirrored p bytes table met own r here (act (past i r.registers) i) r.cells parts.0 parts.1 in
          let none = near_service p r (past i r.registers) i r.cells parts.0 near.0 parts.1 in
          let leads : Mirrors table met r parts.0.0 first.there = subst (λ (z : Service). Leads p table met r z parts.0.0 first.there) none first.leads in
          let made : made_whole r ip (parts.0.0, NoService) ≡ Ok w = subst (λ (z : Service). made_whole r ip (parts.0.0, z) ≡ Ok w) none parts.2 in
          let end = whole_mirrored ip parts.0.0 first.there first.service w leads made in
          record {
            there = end.there;
            service = end.service;
            goes = completed_goes (bare p bytes) seen i (first.there, first.service) (end.there, end.service) near.0 first.goes end.goes;
            leads = end.leads;
          }

  -- the step of the program without overlays
  pub record GoesSo (i : Instr) (service : Service) (t : ResidentState) : Type 0 where
    pub there : ResidentState
    pub follows : Service
    pub goes : effect_of (bare p bytes) seen i ≡ Ok (there, follows)
    pub leads : Leads p table met r service t there

  -- where the installed flag is not among the bytes that were lost
  pub effect_mirrored : (i : Instr) (service : Service) (t : ResidentState) → effect_of p r i ≡ Ok (t, service) → ((there : ResidentState) → Leads p table met r service t there → there.cells p.installed ≡ t.cells p.installed) → GoesSo i service t
  effect_mirrored i service t e same =
      let parts = effect_parts p r i (t, service) e in
      let h = performed_mirrored i (t, service) parts.0 in
      let flag = subst (λ (z : Cell). is_uninstalled (r.cells p.installed) z ≡ false) (sym (same h.there h.leads)) parts.1 in
      record {
        there = h.there;
        follows = h.service;
        goes = effect_whole (bare p bytes) seen i (h.there, h.service) h.goes flag;
        leads = h.leads;
      }

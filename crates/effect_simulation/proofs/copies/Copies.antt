-- The code of Copy does what the copy means.
use Rattle.std.proofs.Common.{◌≡◌, ℕ, suc, ◌+◌, ◌-◌, ◌%◌, ◌<◌, ◌≤◌, Bool, false, zero, List, [], ◌∷◌, ◌++◌, length, Option, Some, None, Ok, Err, arith, refl, sym, ap, subst, ◌∙◌, length-append}
use Rattle.std.specs.Prelude.{ℤ}
use Rattle.common_values.specs.integers.Words.{w16, word_of}
use Rattle.x86_table.specs.declared.instr.Instr.TheVariants as instr
use Rattle.x86_table.specs.declared.operand.SegReg.{SegReg}
use Rattle.x86_table.specs.declared.operand.SegReg.TheVariants as seg
use Rattle.x86_table.specs.declared.operand.WordReg.TheVariants as word
use Rattle.x86_table.specs.Standing.{IsSpelledAt, Stands}
use Rattle.flat_code.specs.declared.memory.Cell.{Cell}
use Rattle.flat_code.specs.declared.memory.Cell.TheVariants as flat
use Rattle.flat_code.specs.declared.memory.Place.{Place}
use Rattle.flat_code.specs.declared.memory.Trap.TheVariants.{ByZero, Bad}
use Rattle.flat_code.specs.declared.tree.Address.{Address}
use Rattle.flat_code.specs.declared.tree.Address.TheVariants.{Global, Local, Outer, Through}
use Rattle.flat_code.specs.Memory as flat_memory
use Rattle.flat_code.specs.Memory.{Found, ◌>>=◌, address_of, place_after, copied_cell, copy, if_inside}
use Rattle.flat_code.specs.Meaning.{step_of, run}
use Rattle.flat_code.specs.Program.{Name, Choice, named}
use Rattle.flat_code.specs.Calls.{begun, copied_at}
use Rattle.flat_code.specs.Tree.{Copy}
use Rattle.flat_code.specs.Values.{Frame, if_placed, linked, place_of, stack_place}
use Rattle.cpu_8086.specs.declared.registers.Registers.{Registers}
use Rattle.cpu_8086.specs.Access.{Act, at_offset, in_segment}
use Rattle.cpu_8086.specs.Effect.{act}
use Rattle.cpu_8086.specs.Memory.{address, next_offset}
use Rattle.resident_machine.specs.Effect.{with_memory}
use Rattle.resident_machine.specs.Program.{Segment, Program}
use Rattle.resident_machine.specs.State.{ResidentState}
use Rattle.resident_machine.specs.machine_lines.Straight.{ones, Placed, IsAt, Carried}
use Rattle.resident_machine.specs.machine_lines.Words.{HoldsWord, stored}
use Rattle.resident_machine.proofs.machine_lines.Steps.{leads_on}
use Rattle.resident_machine.proofs.machine_lines.Straight.{line}
use Rattle.code_templates.specs.code_lines.Addresses.{Context}
use Rattle.code_templates.specs.code_lines.Lines.{destination, move_bytes, moved_from}
use Rattle.code_templates.specs.code_lines.Operands.{memory_at, hops, links, outer_place, operand_place}
use Rattle.statement_simulation.specs.expressions.Active.{Suits, Active}
use Rattle.statement_simulation.proofs.expressions.Loads.{LoadsTo, ones_front, ones_back}
use Rattle.statement_simulation.proofs.expressions.Places.{loads_run}
use Rattle.statement_simulation.proofs.expressions.Stack.{pushed_at}
use Rattle.statement_simulation.proofs.expressions.States.{active_keeps, active_lower, keeps_same}
use Rattle.statement_simulation.specs.stores.Stores.{Stores, Follows}
use Rattle.statement_simulation.specs.flow.Sites.{World, Site, Live, Fits}
use Rattle.statement_simulation.specs.flow.Outcomes.{Flows, EndsErrors}
use Rattle.statement_simulation.specs.flow.Lists.{StepFlows}
use Rattle.statement_simulation.proofs.flow.States.{budget_grows}
use Rattle.statement_simulation.proofs.flow.Lists.{length-ones}
use Rattle.statement_simulation.proofs.flow.Steps.{step_shut, follows_flows}
use Rattle.effect_simulation.proofs.copies.Moves.{rep_moves}
use Rattle.effect_simulation.proofs.copies.Links.{beside_active, links_run}
use Rattle.effect_simulation.proofs.copies.Segments.{registers_waiting, registers_back, pushed_holds, pushed_other, data_waits, data_back}
use Rattle.effect_simulation.proofs.copies.Destinations.{Aimed, AimsTo, destination_runs}
use Rattle.effect_simulation.proofs.copies.Sources.{Sourced, SourcesTo, Pointed, PointsTo, near_sources, far_sources, through_sources}

-- a copy divides nothing
copy_no_division : (n i : ℕ) (m : flat_memory.Cells) (to from : Place) → copy m to from i n ≡ Err ByZero → ⊥
copy_no_division zero i m to from e = absurd (cc)
copy_no_division (suc n) i m to from e = by (λ m'. copy_no_division n (i + 1) m' to from) (m (address_of from i)) e
  where
    Again : Type 0
    Again = (m' : flat_memory.Cells) → copy m' to from (i + 1) n ≡ Err ByZero → ⊥

    inside : Again → (x y : Cell) → (if_inside y (flat_memory.put m (address_of to i) x) >>= λ m'. copy m' to from (i + 1) n) ≡ Err ByZero → ⊥
    inside again x (flat.Known b) e = again (flat_memory.put m (address_of to i) x) e
    inside again x flat.Unset e = again (flat_memory.put m (address_of to i) x) e
    inside again x flat.Outside e = absurd (cc)

    by : Again → (x : Cell) → (copied_cell m (address_of to i) x >>= λ m'. copy m' to from (i + 1) n) ≡ Err ByZero → ⊥
    by again (flat.Known b) e = inside again (flat.Known b) (m (address_of to i)) e
    by again flat.Unset e = inside again flat.Unset (m (address_of to i)) e
    by again flat.Outside e = absurd (cc)

usual : (g : Registers) (u v : ℕ) (next : ℕ → Act) → u ≡ v → in_segment g u None next ≡ next v
unfolding in_segment
usual g u v next e = ap next e

in_stack : (g : Registers) (u v : ℕ) (next : ℕ → Act) → g.ss ≡ v → in_segment g u (Some seg.Ss) next ≡ next v
unfolding in_segment
in_stack g u v next e = ap next e

module _ (p : Program) (framed : Bool) (cs : Segment) (code : List ℕ) (at labels : ℕ → ℕ) (pl : Placed p cs code at) (x : Context) (error : Place) (choice : Choice) (f : Frame) (m : flat_memory.Cells) (suits : Suits x choice f) (bytes : ℕ) where
  -- CX is the number of bytes
  abbrev counting : Registers → ℕ → Registers
  counting g ip = record (at_offset g ip) { cx = bytes }

  counts : (j : ℕ) (r : ResidentState) → IsAt cs (at j) r → Stands (IsSpelledAt code) at labels j (ones (instr.MovWord word.Cx bytes ∷ [])) → Carried p framed cs 1 (at (j + 1)) r (counting r.registers (at (j + 1))) r.cells
  unfolding act
  counts j r here s = line p framed cs code at labels pl j (instr.MovWord word.Cx bytes ∷ []) r refl here s tt

  -- ## The source is no pointer's

  near_copies : (nd j ns i : ℕ) (override : Option SegReg) (r : ResidentState) (to from : Place) (m2 : flat_memory.Cells) → Active p.installed choice f m r.registers r.cells → 64 ≤ r.registers.sp → r.registers.direction ≡ false → (d : Aimed p framed cs nd (at j) r to) (b : Sourced p framed cs ns (at i) (with_memory r d.registers d.cells) from) → ((g : Registers) (u : ℕ) (next : ℕ → Act) → g.ss ≡ choice.stack_segment → u ≡ choice.data_segment → in_segment g u override next ≡ next from.segment) → Stands (IsSpelledAt code) at labels i (ones (move_bytes override bytes)) → copy m to from 0 bytes ≡ Ok m2 → Stores p framed cs (nd + (ns + 2)) (at (i + 1 + 1)) choice f m m2 r
  near_copies nd j ns i override r to from m2 a room up d b segment s e =
      let r1 = with_memory r d.registers d.cells in
      let r2 = with_memory r b.registers d.cells in
      let c = counts i r2 b.here (s.0, tt) in
      let h = counting b.registers (at (i + 1)) in
      let r3 = with_memory r h d.cells in
      let a1 = active_keeps p.installed choice f m r.registers d.registers r.cells d.cells a d.keeps in
      let a2 = beside_active p.installed choice f m d.registers b.registers d.cells a1 b.beside in
      let a3 = active_keeps p.installed choice f m b.registers h d.cells d.cells a2 (keeps_same b.registers h d.cells refl refl refl refl refl) in
      let sp1 = d.keeps.sp in
      let sp2 = b.beside.sp in
      let di : h.di ≡ to.offset = b.beside.di ∙ d.di in
      let es : h.es ≡ to.segment = b.beside.es ∙ d.es in
      let way : h.direction ≡ false = b.beside.direction ∙ d.keeps.direction ∙ up in
      let small1 = d.small in
      let small2 = b.small in
      let z = rep_moves p framed cs code at pl choice f m m2 h (i + 1) bytes override to from r3 c.here s.1.0.0 s.1.0.1 a3 refl (omega arith) (omega arith)
      (λ next. segment (at_offset h (at (i + 1 + 1))) h.ds next a3.ss a3.ds) refl b.si di (omega arith) (omega arith) es way e in
      let end = with_memory r z.registers z.cells in
      let few1 = d.few in
      let few2 = b.few in
      record {
        count = d.count + (b.count + (1 + 1));
        few = omega arith;
        registers = z.registers;
        cells = z.cells;
        leads = leads_on p framed d.count (b.count + (1 + 1)) r r1 end d.leads (leads_on p framed b.count (1 + 1) r1 r2 end b.leads (leads_on p framed 1 1 r2 r3 end c.leads z.leads));
        here = z.here;
        active = active_keeps p.installed choice f m2 h z.registers z.cells z.cells z.active (keeps_same h z.registers z.cells z.sp z.bp z.ss z.ds z.direction);
        sp = z.sp ∙ b.beside.sp ∙ d.keeps.sp;
        direction = z.direction ∙ b.beside.direction ∙ d.keeps.direction;
        outside = λ place o kept. z.outside place o ∙ d.keeps.bytes place kept;
        free = λ place free. z.free place (d.keeps.free place free);
      }

  -- where the source was found, or not
  near_follows : (nd j ns i : ℕ) (override : Option SegReg) (r : ResidentState) (to : Place) → Active p.installed choice f m r.registers r.cells → 64 ≤ r.registers.sp → r.registers.direction ≡ false → (d : Aimed p framed cs nd (at j) r to) (found : Found Place) → SourcesTo p framed cs ns (at i) (with_memory r d.registers d.cells) found → ((from : Place) → found ≡ Ok from → (g : Registers) (u : ℕ) (next : ℕ → Act) → g.ss ≡ choice.stack_segment → u ≡ choice.data_segment → in_segment g u override next ≡ next from.segment) → Stands (IsSpelledAt code) at labels i (ones (move_bytes override bytes)) → Follows p framed cs error (nd + (ns + 2)) (at (i + 1 + 1)) choice f m r (found >>= λ from. copy m to from 0 bytes)
  near_follows nd j ns i override r to a room up d (Err ByZero) b segment s = absurd b
  near_follows nd j ns i override r to a room up d (Err (Bad act)) b segment s = tt
  near_follows nd j ns i override r to a room up d (Ok from) b segment s = by (copy m to from 0 bytes) refl
    where
      by : (result : Found flat_memory.Cells) → copy m to from 0 bytes ≡ result → Follows p framed cs error (nd + (ns + 2)) (at (i + 1 + 1)) choice f m r result
      by (Ok m2) e = near_copies nd j ns i override r to from m2 a room up d b (segment from refl) s e
      by (Err ByZero) e = absurd (copy_no_division bytes 0 m to from e)
      by (Err (Bad act)) e = tt

  -- ## The source is a pointer's: DS waits

  far_copies : (nd j : ℕ) (r : ResidentState) (to from : Place) (m2 : flat_memory.Cells) (slot : ℤ) (plus : ℕ) → Active p.installed choice f m r.registers r.cells → 66 ≤ r.registers.sp → r.registers.direction ≡ false → (d : Aimed p framed cs nd (at j) r to) → Stands (IsSpelledAt code) at labels j (ones (moved_from x (Through slot plus) bytes)) → (w : Carried p framed cs 1 (at (j + 1)) (with_memory r d.registers d.cells) (registers_waiting d.registers (at (j + 1))) (stored d.cells d.registers.ss (pushed_at d.registers) d.registers.ds)) → Pointed p framed cs code at labels pl x choice f m suits (j + 1) (with_memory r (registers_waiting d.registers (at (j + 1))) (stored d.cells d.registers.ss (pushed_at d.registers) d.registers.ds)) from → copy m to from 0 bytes ≡ Ok m2 → Stores p framed cs (nd + 6) (at (j + 6)) choice f m m2 r
  far_copies nd j r to from m2 slot plus a room up d s w b e =
      let g1 = d.registers in
      let c1 = d.cells in
      let v = g1.ds in
      let c2 = stored c1 g1.ss (pushed_at g1) v in
      let r1 = with_memory r g1 c1 in
      let r2 = with_memory r (registers_waiting g1 (at (j + 1))) c2 in
      let r3 = with_memory r b.registers c2 in
      let sp1 = d.keeps.sp in
      let enough : 66 ≤ g1.sp = omega arith in
      let a1 = active_keeps p.installed choice f m r.registers g1 r.cells c1 a d.keeps in
      let other = pushed_other p framed cs code at labels pl choice f m r1 a1 enough v in
      let a2 = active_keeps p.installed choice f m g1 g1 c1 c2 a1 (record { sp = refl; bp = refl; ss = refl; ds = refl; direction = refl; bytes = other; free = w.free }) in
      let three : j + 1 + 2 ≡ j + 1 + 1 + 1 = omega arith in
      let here3 = subst (λ n. IsAt cs (at n) r3) three b.here in
      let c = counts (j + 1 + 1 + 1) r3 here3 (s.1.1.1.0, tt) in
      let h = counting b.registers (at (j + 1 + 1 + 1 + 1)) in
      let r4 = with_memory r h c2 in
      let top = a1.top in
      let inside = a1.inside in
      let low : h.sp ≡ g1.sp - 2 = b.sp ∙ (omega arith) in
      let di : h.di ≡ to.offset = b.di ∙ d.di in
      let es : h.es ≡ to.segment = b.es ∙ d.es in
      let way : h.direction ≡ false = b.direction ∙ d.keeps.direction ∙ up in
      let small1 = d.small in
      let small2 = b.small in
      let z = rep_moves p framed cs code at pl choice f m m2 g1 (j + 1 + 1 + 1 + 1) bytes None to from r4 c.here s.1.1.1.1.0.0 s.1.1.1.1.0.1 a2 (sym b.ss) (omega arith) (omega arith)
      (λ next. usual (at_offset h (at (j + 1 + 1 + 1 + 1 + 1))) h.ds from.segment next b.ds) refl b.si di (omega arith) (omega arith) es way e in
      let r5 = with_memory r z.registers z.cells in
      let holds = pushed_holds p framed cs code at labels pl choice f m r1 a1 enough v in
      let still : HoldsWord z.cells g1.ss (pushed_at g1) v = record {
        low = z.outside (address g1.ss (pushed_at g1)) (a1.below (address g1.ss (pushed_at g1)) (omega arith) (omega arith)) ∙ holds.low;
        high = z.outside (address g1.ss (next_offset (pushed_at g1))) (a1.below (address g1.ss (next_offset (pushed_at g1))) (omega arith) (omega arith)) ∙ holds.high;
      } in
      let ss : z.registers.ss ≡ g1.ss = z.ss ∙ b.ss in
      let sp : z.registers.sp ≡ pushed_at g1 = z.sp ∙ b.sp in
      let waits = subst (λ n. HoldsWord z.cells n z.registers.sp v) (sym ss) (subst (λ n. HoldsWord z.cells g1.ss n v) (sym sp) still) in
      let back = data_back p framed cs code at labels pl (j + 1 + 1 + 1 + 1 + 1) v r5 waits (omega arith) (omega arith) z.here s.1.1.1.1.1 in
      let g6 = registers_back z.registers (at (j + 1 + 1 + 1 + 1 + 1 + 1)) v in
      let end = with_memory r g6 z.cells in
      let same_sp : g6.sp ≡ g1.sp = omega arith in
      let same_bp : g6.bp ≡ g1.bp = z.bp ∙ b.bp in
      let same_way : g6.direction ≡ g1.direction = z.direction ∙ b.direction in
      let six : j + 1 + 1 + 1 + 1 + 1 + 1 ≡ j + 6 = omega arith in
      let few = d.few in
      record {
        count = d.count + (1 + (2 + (1 + (1 + 1))));
        few = omega arith;
        registers = g6;
        cells = z.cells;
        leads = leads_on p framed d.count (1 + (2 + (1 + (1 + 1)))) r r1 end d.leads (leads_on p framed 1 (2 + (1 + (1 + 1))) r1 r2 end w.leads (leads_on p framed 2 (1 + (1 + 1)) r2 r3 end b.leads (leads_on p framed 1 (1 + 1) r3 r4 end c.leads (leads_on p framed 1 1 r4 r5 end z.leads back.leads))));
        here = subst (λ n. IsAt cs (at n) end) six back.here;
        active = active_keeps p.installed choice f m2 g1 g6 z.cells z.cells z.active (keeps_same g1 g6 z.cells same_sp same_bp ss refl same_way);
        sp = same_sp ∙ d.keeps.sp;
        direction = same_way ∙ d.keeps.direction;
        outside = λ place o kept. z.outside place o ∙ other place (λ low. let q = d.keeps.ss in let k = kept (omega arith) in omega arith) ∙ d.keeps.bytes place kept;
        free = λ place free. z.free place (w.free place (d.keeps.free place free));
      }

  far_follows : (nd j : ℕ) (r : ResidentState) (to : Place) (slot : ℤ) (plus : ℕ) → Active p.installed choice f m r.registers r.cells → 66 ≤ r.registers.sp → r.registers.direction ≡ false → (d : Aimed p framed cs nd (at j) r to) → Stands (IsSpelledAt code) at labels j (ones (moved_from x (Through slot plus) bytes)) → (w : Carried p framed cs 1 (at (j + 1)) (with_memory r d.registers d.cells) (registers_waiting d.registers (at (j + 1))) (stored d.cells d.registers.ss (pushed_at d.registers) d.registers.ds)) → (found : Found Place) → PointsTo p framed cs code at labels pl x choice f m suits (j + 1) (with_memory r (registers_waiting d.registers (at (j + 1))) (stored d.cells d.registers.ss (pushed_at d.registers) d.registers.ds)) found → Follows p framed cs error (nd + 6) (at (j + 6)) choice f m r (found >>= λ from. copy m to from 0 bytes)
  far_follows nd j r to slot plus a room up d s w (Err ByZero) b = absurd b
  far_follows nd j r to slot plus a room up d s w (Err (Bad act)) b = tt
  far_follows nd j r to slot plus a room up d s w (Ok from) b = by (copy m to from 0 bytes) refl
    where
      by : (result : Found flat_memory.Cells) → copy m to from 0 bytes ≡ result → Follows p framed cs error (nd + 6) (at (j + 6)) choice f m r result
      by (Ok m2) e = far_copies nd j r to from m2 slot plus a room up d s w b e
      by (Err ByZero) e = absurd (copy_no_division bytes 0 m to from e)
      by (Err (Bad act)) e = tt

-- ## The segments of places

global_segment : (choice : Choice) (f : Frame) (m : flat_memory.Cells) (unit number plus : ℕ) (q : Place) → place_of choice f m (Global unit number plus) ≡ Ok q → choice.data_segment ≡ q.segment
global_segment choice f m unit number plus q e = by_name (named f.unit f.names unit) e
  where
    or_own : Found Place → ℕ
    or_own (Ok p) = p.segment
    or_own (Err trap) = 0

    by_datum : (o : Option ℕ) → ((if_placed o >>= λ offset. Ok (record { segment = choice.data_segment; offset = offset })) >>= λ p. Ok (place_after p plus)) ≡ Ok q → choice.data_segment ≡ q.segment
    by_datum None e = absurd (cc)
    by_datum (Some offset) e = ap or_own e

    by_name : (o : Option Name) → (((if_placed o >>= λ name. Ok (record { unit = name; number = number })) >>= λ key. if_placed (choice.datum key) >>= λ offset. Ok (record { segment = choice.data_segment; offset = offset })) >>= λ p. Ok (place_after p plus)) ≡ Ok q → choice.data_segment ≡ q.segment
    by_name None e = absurd (cc)
    by_name (Some name) e = by_datum (choice.datum (record { unit = name; number = number })) e

outer_segment : (choice : Choice) (f : Frame) (m : flat_memory.Cells) (levels : ℕ) (d : ℤ) (q : Place) → place_of choice f m (Outer levels d) ≡ Ok q → choice.stack_segment ≡ q.segment
outer_segment choice f m levels d q e = by (linked choice m levels f.link) e
  where
    or_own : Found Place → ℕ
    or_own (Ok p) = p.segment
    or_own (Err trap) = 0

    by : (o : Found ℕ) → (o >>= λ link. Ok (stack_place choice link d)) ≡ Ok q → choice.stack_segment ≡ q.segment
    by (Ok link) e = ap or_own e
    by (Err trap) e = absurd (cc)

local_segment : (choice : Choice) (f : Frame) (m : flat_memory.Cells) (d : ℤ) (q : Place) → place_of choice f m (Local d) ≡ Ok q → choice.stack_segment ≡ q.segment
local_segment choice f m d q e = ap or_own e
  where
    or_own : Found Place → ℕ
    or_own (Ok p) = p.segment
    or_own (Err trap) = 0

-- ## Any source

module _ (p : Program) (framed : Bool) (cs : Segment) (code : List ℕ) (at labels : ℕ → ℕ) (pl : Placed p cs code at) (x : Context) (error : Place) (choice : Choice) (f : Frame) (m : flat_memory.Cells) (suits : Suits x choice f) (bytes : ℕ) where
  follows_at : (n i k j : ℕ) (r : ResidentState) (found : Found flat_memory.Cells) → n ≡ i → k ≡ j → Follows p framed cs error n (at k) choice f m r found → Follows p framed cs error i (at j) choice f m r found
  follows_at n i k j r found e h a = subst (λ z. Follows p framed cs error i (at z) choice f m r found) h (subst (λ z. Follows p framed cs error z (at k) choice f m r found) e a)

  -- a place for which nothing is loaded
  here_follows : (from : Address) (override : Option SegReg) (nd j : ℕ) (r : ResidentState) (to : Place) → Active p.installed choice f m r.registers r.cells → 66 ≤ r.registers.sp → r.registers.direction ≡ false → (d : Aimed p framed cs nd (at j) r to) → LoadsTo p framed cs 0 (at (j + 0)) x from (with_memory r d.registers d.cells) (place_of choice f m from) → ((q : Place) → place_of choice f m from ≡ Ok q → (g : Registers) (u : ℕ) (next : ℕ → Act) → g.ss ≡ choice.stack_segment → u ≡ choice.data_segment → in_segment g u override next ≡ next q.segment) → Stands (IsSpelledAt code) at labels j (ones (instr.Lea word.Si (memory_at (operand_place x from 0)) ∷ move_bytes override bytes)) → Follows p framed cs error (nd + 3) (at (j + 3)) choice f m r (place_of choice f m from >>= λ q. copy m to q 0 bytes)
  here_follows from override nd j r to a room up d l segment s =
      let r1 = with_memory r d.registers d.cells in
      let three : j + 1 + 1 + 1 ≡ j + 3 = omega arith in
      let found = place_of choice f m from in
      let b = near_sources p framed cs code at labels pl x choice f m suits from j r1 d.here (s.0, tt) found l in
      follows_at (nd + 3) (nd + 3) (j + 1 + 1 + 1) (j + 3) r (found >>= λ q. copy m to q 0 bytes) refl three
      (near_follows p framed cs code at labels pl x error choice f m suits bytes nd j 1 (j + 1) override r to a (omega arith) up d found b segment s.1)

  source_follows : (from : Address) (nd j : ℕ) (r : ResidentState) (to : Place) → Active p.installed choice f m r.registers r.cells → 66 ≤ r.registers.sp → r.registers.direction ≡ false → (d : Aimed p framed cs nd (at j) r to) → Stands (IsSpelledAt code) at labels j (ones (moved_from x from bytes)) → Follows p framed cs error (nd + length (moved_from x from bytes)) (at (j + length (moved_from x from bytes))) choice f m r (place_of choice f m from >>= λ q. copy m to q 0 bytes)
  source_follows (Global unit number plus) nd j r to a room up d s =
      let r1 = with_memory r d.registers d.cells in
      let a1 = active_keeps p.installed choice f m r.registers d.registers r.cells d.cells a d.keeps in
      let sp = d.keeps.sp in
      let l = loads_run p framed cs code at labels pl x choice f m suits (Global unit number plus) j r1 d.here a1 (omega arith) tt in
      here_follows (Global unit number plus) None nd j r to a room up d l (λ q e g u next ss ds. usual g u q.segment next (ds ∙ global_segment choice f m unit number plus q e)) s
  source_follows (Local o) nd j r to a room up d s =
      let r1 = with_memory r d.registers d.cells in
      let a1 = active_keeps p.installed choice f m r.registers d.registers r.cells d.cells a d.keeps in
      let sp = d.keeps.sp in
      let l = loads_run p framed cs code at labels pl x choice f m suits (Local o) j r1 d.here a1 (omega arith) tt in
      here_follows (Local o) (Some seg.Ss) nd j r to a room up d l (λ q e g u next ss ds. in_stack g u q.segment next (ss ∙ local_segment choice f m o q e)) s
  source_follows (Outer zero o) nd j r to a room up d s =
      let r1 = with_memory r d.registers d.cells in
      let a1 = active_keeps p.installed choice f m r.registers d.registers r.cells d.cells a d.keeps in
      let sp = d.keeps.sp in
      let l = loads_run p framed cs code at labels pl x choice f m suits (Outer zero o) j r1 d.here a1 (omega arith) tt in
      here_follows (Outer zero o) (Some seg.Ss) nd j r to a room up d l (λ q e g u next ss ds. in_stack g u q.segment next (ss ∙ outer_segment choice f m zero o q e)) s
  source_follows (Outer (suc n) o) nd j r to a room up d s =
      let r1 = with_memory r d.registers d.cells in
      let a1 = active_keeps p.installed choice f m r.registers d.registers r.cells d.cells a d.keeps in
      let sp = d.keeps.sp in
      let size = suc (length (hops n)) in
      let ls = links x (suc n) in
      let tail = instr.Lea word.Si (memory_at (outer_place x (suc n) ((word_of w16 o + 0) % 65536))) ∷ move_bytes (Some seg.Ss) bytes in
      let whole = length-append ls tail in
      let behind = ones_back (IsSpelledAt code) at labels j ls tail s in
      let i = j + size + 1 in
      let found = place_of choice f m (Outer (suc n) o) in
      let l = links_run p framed cs code at labels pl x choice f m suits n j r1 d.here a1 (omega arith) (ones_front (IsSpelledAt code) at labels j ls tail s) in
      let b = far_sources p framed cs code at labels pl x choice f m suits n o j r1 (behind.0, tt) (linked choice m (suc n) f.link) l in
      follows_at (nd + (size + 1 + 2)) (nd + length (ls ++ tail)) (i + 1 + 1) (j + length (ls ++ tail)) r (found >>= λ q. copy m to q 0 bytes) (omega arith) (omega arith)
      (near_follows p framed cs code at labels pl x error choice f m suits bytes nd j (size + 1) i (Some seg.Ss) r to a (omega arith) up d found b (λ q e g u next ss ds. in_stack g u q.segment next (ss ∙ outer_segment choice f m (suc n) o q e)) behind.1)
  source_follows (Through slot plus) nd j r to a room up d s =
      let g1 = d.registers in
      let c2 = stored d.cells g1.ss (pushed_at g1) g1.ds in
      let h = registers_waiting g1 (at (j + 1)) in
      let r1 = with_memory r g1 d.cells in
      let r2 = with_memory r h c2 in
      let a1 = active_keeps p.installed choice f m r.registers g1 r.cells d.cells a d.keeps in
      let sp = d.keeps.sp in
      let top = a1.top in
      let enough : 66 ≤ g1.sp = omega arith in
      let w = data_waits p framed cs code at labels pl choice f m r1 a1 enough j d.here (s.0, tt) in
      let other = pushed_other p framed cs code at labels pl choice f m r1 a1 enough g1.ds in
      let a2 = active_lower p.installed choice f m g1 h d.cells c2 a1 (omega arith) refl refl refl other w.free in
      let b = through_sources p framed cs code at labels pl x choice f m suits slot plus (j + 1) r2 w.here a2 (omega arith) (s.1.0, (s.1.1.0, tt)) in
      far_follows p framed cs code at labels pl x error choice f m suits bytes nd j r to slot plus a room up d s w (place_of choice f m (Through slot plus)) b

  aimed_follows : (to from : Address) (k : ℕ) (r : ResidentState) → Active p.installed choice f m r.registers r.cells → 66 ≤ r.registers.sp → r.registers.direction ≡ false → Stands (IsSpelledAt code) at labels k (ones (destination x to ++ moved_from x from bytes)) → (found : Found Place) → AimsTo p framed cs (length (destination x to)) (at (k + length (destination x to))) r found → Follows p framed cs error (length (destination x to) + length (moved_from x from bytes)) (at (k + length (destination x to) + length (moved_from x from bytes))) choice f m r (found >>= λ to. place_of choice f m from >>= λ q. copy m to q 0 bytes)
  aimed_follows to from k r a room up s (Err ByZero) d = absurd d
  aimed_follows to from k r a room up s (Err (Bad act)) d = tt
  aimed_follows to from k r a room up s (Ok q) d =
      source_follows from (length (destination x to)) (k + length (destination x to)) r q a room up d (ones_back (IsSpelledAt code) at labels k (destination x to) (moved_from x from bytes) s)

  pub copy_runs : (to from : Address) (k : ℕ) (r : ResidentState) → IsAt cs (at k) r → Active p.installed choice f m r.registers r.cells → 66 ≤ r.registers.sp → r.registers.direction ≡ false → Stands (IsSpelledAt code) at labels k (ones (destination x to ++ moved_from x from bytes)) → Follows p framed cs error (length (destination x to ++ moved_from x from bytes)) (at (k + length (destination x to ++ moved_from x from bytes))) choice f m r (copied_at choice f m to from bytes)
  copy_runs to from k r here a room up s =
      let ds = destination x to in
      let ms = moved_from x from bytes in
      let size = length-append ds ms in
      let d = destination_runs p framed cs code at labels pl x choice f m suits to k r here a room (ones_front (IsSpelledAt code) at labels k ds ms s) in
      follows_at (length ds + length ms) (length (ds ++ ms)) (k + length ds + length ms) (k + length (ds ++ ms)) r (copied_at choice f m to from bytes) (omega arith) (omega arith)
      (aimed_follows to from k r a room up s (place_of choice f m to) d)

pub copy_flows : (w : World) (site : Site) (live : Live) → Fits w site live → (bound pointer : ℕ) → EndsErrors w live site.context.addresses.error_routine → (to from : Address) (bytes : ℕ) → bytes < 65536 → 66 ≤ live.frame.sp → StepFlows w site live bound pointer (Copy to from bytes)
copy_flows w site live fits bound pointer ends to from bytes words room around k s r few here a stands small =
    let x = site.context in
    let is = destination x to ++ moved_from x from bytes in
    let sp = a.sp in
    let size = length-ones is in
    let found = copied_at w.choice live.frame s.cells to from bytes in
    let done = copy_runs w.machine w.framed site.segment site.code site.at site.labels fits.placed x x.addresses.error_routine w.choice live.frame s.cells fits.suits bytes to from k r here a.active (omega arith) a.direction stands in
    let paid = budget_grows w s.work 1 (length is) (omega arith) (omega arith) in
    let flows = follows_flows w site live fits around (length is) (site.at (k + length is)) (site.at k) 1 s r ends here a paid found done (step_shut w site live fits (Copy to from bytes) s) in
    subst (λ n. Flows w site live around (site.at (k + n)) s r (step_of w.program w.choice (run w.program w.choice) (Copy to from bytes) live.frame (begun 1 s))) (sym size) flows

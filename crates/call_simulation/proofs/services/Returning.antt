-- A routine of an act comes back to its caller.
use Rattle.std.proofs.Common.{◌≡◌, ◌≢◌, ℕ, ◌+◌, ◌-◌, ◌*◌, ◌%◌, ◌<◌, ◌≤◌, Bool, true, false, List, [], ◌∷◌, length, arith, refl, sym, ap, subst, ◌∙◌}
use Rattle.std.specs.Prelude.{IsTrue, drop}
use Rattle.x86_table.specs.declared.instr.Instr.TheVariants as instr
use Rattle.x86_table.specs.Standing.{IsSpelledAt, Stands}
use Rattle.flat_code.specs.Calls.{State}
use Rattle.cpu_8086.specs.declared.registers.Registers.{Registers}
use Rattle.cpu_8086.specs.Access.{at_offset}
use Rattle.resident_machine.specs.Cells.{is_free, below}
use Rattle.resident_machine.specs.Effect.{returned}
use Rattle.resident_machine.specs.Framed.{places_of, IsFramed, FramedAfter}
use Rattle.resident_machine.specs.Program.{Segment, Image, Overlay}
use Rattle.resident_machine.specs.State.{Record, ResidentState}
use Rattle.resident_machine.specs.machine_lines.Steps.{Owed, Leads}
use Rattle.resident_machine.specs.machine_lines.Straight.{MayWrite, StaysFree, ones, Placed, IsAt}
use Rattle.statement_simulation.specs.expressions.Active.{Active, IsKept}
use Rattle.statement_simulation.proofs.expressions.States.{known_kept}
use Rattle.statement_simulation.specs.flow.Sites.{World, Site, Live, Fits, IsFlag, Represents}
use Rattle.statement_simulation.proofs.flow.States.{flag_kept, fixed_kept}
use Rattle.call_simulation.specs.frames.Callee.{IsPaired}
use Rattle.call_simulation.specs.frames.Chain.{IsChained}
use Rattle.call_simulation.proofs.frames.Chains.{framed_there}
use Rattle.call_simulation.proofs.frames.Leave.{service_in, far_back, back_free, back_other, back_beside, pair_free, pair_other, far_returns}

module _ (w : World) (site : Site) (live : Live) (fits : Fits w site live) (chained : IsTrue w.framed → IsChained w live) (s : State) (r : ResidentState) (a : Represents w live s r) (room : 72 ≤ r.registers.sp) where
  -- The machine stands in a routine in the image, with the caller's return address at SP. All else is as the caller left it, but for the stack below SP and the installed flag.
  pub record Inside (number ip jp : ℕ) (t : ResidentState) : Type 0 where
    pub here : IsAt (Image number) ip t
    pub sp : t.registers.sp + 4 ≡ r.registers.sp
    pub bp : t.registers.bp ≡ r.registers.bp
    pub ss : t.registers.ss ≡ r.registers.ss
    pub ds : t.registers.ds ≡ r.registers.ds
    pub direction : t.registers.direction ≡ r.registers.direction
    pub bytes : (place : ℕ) → IsKept r.registers place → place ≢ w.machine.installed → t.cells place ≡ r.cells place
    pub free : (place : ℕ) → IsTrue (is_free (r.cells place)) → (IsPaired true t.registers place → ⊥) → IsTrue (is_free (t.cells place))
    pub records : t.records ≡ record { place = t.registers.sp; segment = site.segment; offset = jp } ∷ r.records
    pub input : t.input ≡ r.input
    pub taken : t.taken ≡ r.taken
    pub out : t.out ≡ r.out
    pub err : t.err ≡ r.err

  -- The caller runs again.
  pub record Served (jp : ℕ) (t end : ResidentState) : Type 0 where
    pub leads : Leads w.machine w.framed 1 t end
    pub here : IsAt site.segment jp end
    pub sp : end.registers.sp ≡ r.registers.sp
    pub bp : end.registers.bp ≡ r.registers.bp
    pub ss : end.registers.ss ≡ r.registers.ss
    pub ds : end.registers.ds ≡ r.registers.ds
    pub direction : end.registers.direction ≡ r.registers.direction
    pub bytes : (place : ℕ) → IsKept r.registers place → place ≢ w.machine.installed → end.cells place ≡ r.cells place
    pub flag : end.cells w.machine.installed ≡ t.cells w.machine.installed
    pub free : StaysFree r.cells end.cells
    pub records : end.records ≡ r.records
    pub input : end.input ≡ r.input
    pub taken : end.taken ≡ r.taken
    pub out : end.out ≡ r.out
    pub err : end.err ≡ r.err

  module _ (number : ℕ) (code : List ℕ) (at labels : ℕ → ℕ) (pl : Placed w.machine (Image number) code at) (k jp : ℕ) (t : ResidentState) (h : Inside number (at k) jp t) (stands : Stands (IsSpelledAt code) at labels k (ones (instr.RetFar ∷ []))) where
    abbrev top_record : Record
    top_record = record { place = t.registers.sp; segment = site.segment; offset = jp }

    abbrev g : Registers
    g = at_offset t.registers (at (k + 1))

    -- before what a service may overwrite
    abbrev plain : ResidentState
    plain = returned t g t.cells 0 top_record r.records

    abbrev pub caller_again : ResidentState
    caller_again = far_back w.machine w.framed (Image number) code at labels pl t (at (k + 1)) 0 top_record r.records

    raised_is : (t.registers.sp + 4) % 65536 ≡ r.registers.sp
    raised_is = let sp = h.sp in let top = a.active.top in omega arith

    pair_top : t.registers.sp + 4 ≤ 65536
    pair_top = let sp = h.sp in let top = a.active.top in omega arith

    pair_inside : 16 * t.registers.ss + t.registers.sp + 4 ≤ 1048576
    pair_inside = let sp = h.sp in let ss = h.ss in let i = a.active.inside in omega arith

    plain_other : (place : ℕ) → IsKept r.registers place → plain.cells place ≡ t.cells place
    plain_other place kept =
        pair_other g t.cells (16 * t.registers.ss + t.registers.sp) place pair_top pair_inside refl
        (λ q. let low = q.0 in let high = q.1 in let sp = h.sp in let ss = h.ss in let z = kept (omega arith) in absurd (omega arith))

    below_apart : (place j : ℕ) → IsKept r.registers place → j < 64 → place ≢ below plain.registers.ss plain.registers.sp j
    below_apart place j kept less e =
        let top = a.active.top in
        let i = a.active.inside in
        let z = room in
        let same : below r.registers.ss r.registers.sp j ≡ 16 * r.registers.ss + (r.registers.sp - 1 - j) = omega (arith, less) in
        let moved = ap (λ n. below n plain.registers.sp j) h.ss ∙ ap (λ n. below r.registers.ss n j) raised_is in
        let place_is : place ≡ 16 * r.registers.ss + (r.registers.sp - 1 - j) = e ∙ moved ∙ same in
        let o = kept (omega (arith, place_is)) in
        absurd (omega (arith, place_is, o, less))

    end_bytes : (place : ℕ) → IsKept r.registers place → caller_again.cells place ≡ t.cells place
    end_bytes place kept = back_other site.segment plain place (λ j less. below_apart place j kept less) ∙ plain_other place kept

    end_free : StaysFree r.cells caller_again.cells
    end_free place f = back_free site.segment plain place (pair_free g t.cells (16 * t.registers.ss + t.registers.sp) place pair_top pair_inside refl (λ apart. h.free place f apart))

    flag_is : caller_again.cells w.machine.installed ≡ t.cells w.machine.installed
    flag_is = end_bytes w.machine.installed (flag_kept w.machine.installed w.choice live.frame s.cells r.registers r.cells a.active)

    end_sp : caller_again.registers.sp ≡ r.registers.sp
    end_sp = ap (λ (z : Registers). z.sp) (back_beside site.segment plain).registers ∙ raised_is

    end_ss : caller_again.registers.ss ≡ r.registers.ss
    end_ss = ap (λ (z : Registers). z.ss) (back_beside site.segment plain).registers ∙ h.ss

    framed_back : IsTrue w.framed → IsFramed w.machine false caller_again
    framed_back e =
        let sp = end_sp in
        let ss = a.active.ss in
        let top = a.active.top in
        let i = a.active.inside in
        let f = a.sp in
        let z = room in
        framed_there w site live fits false caller_again (chained e) (end_ss ∙ a.active.ss) (ap (λ (z : Registers). z.bp) (back_beside site.segment plain).registers ∙ h.bp ∙ a.active.bp) (omega arith) (omega arith) (omega arith) (omega arith)
        (λ place byte known. let kept = fixed_kept w site live fits s r place byte a known in end_bytes place kept ∙ h.bytes place kept (fits.apart place byte known) ∙ a.fixed place byte known)
        (ap places_of ((back_beside site.segment plain).records ∙ a.records) ∙ (chained e).places) (λ z. absurd (cc))
        (λ offset less.
        let may = subst (λ z. MayWrite r.cells w.machine.installed (16 * z + offset)) a.active.ss (a.active.spare offset (omega (arith, less, sp))) in
        (end_free (16 * w.choice.stack_segment + offset) may.free, may.apart))

    after_by : (to : Segment) → IsFramed w.machine false caller_again → FramedAfter w.machine (service_in to) caller_again
    after_by (Image number) h = tt
    after_by (Overlay number) h = h

    owed : Owed w.framed w.machine (service_in site.segment) caller_again
    owed = by w.framed refl
      where
        by : (framed : Bool) → w.framed ≡ framed → Owed framed w.machine (service_in site.segment) caller_again
        by true e = after_by site.segment (framed_back e)
        by false e = tt

    pub returns : Served jp t caller_again
    returns =
        let beside = back_beside site.segment plain in
        let regs = beside.registers in
        record {
          leads = far_returns w.machine w.framed (Image number) code at labels pl k 0 top_record r.records t h.records refl h.here stands flag_is owed;
          here = record { running = beside.status ∙ h.here.running; half = beside.half ∙ h.here.half; segment = beside.cs; offset = ap (λ (z : Registers). z.ip) regs };
          sp = end_sp;
          bp = ap (λ (z : Registers). z.bp) regs ∙ h.bp;
          ss = end_ss;
          ds = ap (λ (z : Registers). z.ds) regs ∙ h.ds;
          direction = ap (λ (z : Registers). z.direction) regs ∙ h.direction;
          bytes = λ place kept apart. end_bytes place kept ∙ h.bytes place kept apart;
          flag = flag_is;
          free = end_free;
          records = beside.records;
          input = beside.input ∙ h.input;
          taken = beside.taken ∙ h.taken;
          out = beside.out ∙ h.out;
          err = beside.err ∙ h.err;
        }

  -- what flat code sees is as it was, but for the flag
  served_active : (jp : ℕ) (t end : ResidentState) → Served jp t end → Active w.machine.installed w.choice live.frame s.cells end.registers end.cells
  served_active jp t end h =
      let sp = h.sp in
      let ss = h.ss in
      let top = a.active.top in
      let inside = a.active.inside in
      record {
        ss = h.ss ∙ a.active.ss;
        ds = h.ds ∙ a.active.ds;
        bp = h.bp ∙ a.active.bp;
        top = omega arith;
        inside = omega arith;
        known = λ place byte e. h.bytes place (known_kept w.machine.installed w.choice live.frame s.cells r.registers r.cells place byte a.active e) ((a.active.reached place (λ o. let z = sym e ∙ o in absurd (cc))).apart) ∙ a.active.known place byte e;
        small = a.active.small;
        reached = λ place o. let may = a.active.reached place o in record { free = h.free place may.free; apart = may.apart };
        below = λ place low high. a.active.below place (omega (arith, low, ss)) (omega (arith, high, sp, ss));
        spare = λ offset less.
            let may = subst (λ z. MayWrite r.cells w.machine.installed (16 * z + offset)) (sym h.ss) (a.active.spare offset (omega (arith, less, sp))) in
            record { free = h.free (16 * end.registers.ss + offset) may.free; apart = may.apart };
      }

  pub served_represents : (jp turns work : ℕ) (flag : Bool) (t end : ResidentState) → Served jp t end → IsFlag flag (t.cells w.machine.installed) → (s.flag ≡ true → flag ≡ true) → Represents w live (record s { turns = turns; work = work; flag = flag }) end
  served_represents jp turns work flag t end h shown stays = record {
    active = served_active jp t end h;
    sp = h.sp ∙ a.sp;
    direction = h.direction ∙ a.direction;
    flag = subst (λ cell. IsFlag flag cell) (sym h.flag) shown;
    set = λ e. stays (a.set e);
    outside = a.outside;
    fixed = λ place byte e. h.bytes place (fixed_kept w site live fits s r place byte a e) (fits.apart place byte e) ∙ a.fixed place byte e;
    records = h.records ∙ a.records;
    unread = ap (λ n. drop n end.input) h.taken ∙ ap (λ l. drop r.taken l) h.input ∙ a.unread;
    bytes = a.bytes;
    read = subst (λ l. end.taken ≤ length l) (sym h.input) (subst (λ n. n ≤ length r.input) (sym h.taken) a.read);
    out = h.out ∙ a.out;
    err = h.err ∙ a.err;
  }

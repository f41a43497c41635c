-- A routine is left: behind the call the machine stands for the caller again, with the result in registers.
use Rattle.std.proofs.Common.{◌≡◌, ◌≢◌, ℕ, ◌+◌, ◌-◌, ◌*◌, ◌/◌, ◌%◌, ◌<◌, ◌≤◌, Bool, true, false, List, [], ◌∷◌, ◌++◌, length, Some, Ok, arith, refl, sym, ap, subst, ◌∙◌, length-append}
use Rattle.std.specs.Prelude.{drop, IsTrue}
use Rattle.x86_table.specs.Standing.{IsSpelledAt, Stands}
use Rattle.flat_code.specs.Legal.{HasResultSize}
use Rattle.flat_code.specs.Program.{Name, Routine, UnitCode}
use Rattle.flat_code.specs.Values.{Frame}
use Rattle.flat_code.specs.Calls.{State, with_cells, activation_bytes, link_bytes, result_bytes, closed}
use Rattle.cpu_8086.specs.declared.registers.Registers.{Registers}
use Rattle.cpu_8086.specs.Access.{at_offset}
use Rattle.resident_machine.specs.Cells.{Known, Cells, is_free, below}
use Rattle.resident_machine.specs.Effect.{with_memory, returned}
use Rattle.resident_machine.specs.Framed.{places_of, IsFramed, FramedAfter}
use Rattle.resident_machine.specs.Program.{Segment, Image, Overlay}
use Rattle.resident_machine.specs.State.{Record, ResidentState}
use Rattle.resident_machine.specs.machine_lines.Steps.{Owed, Leads}
use Rattle.resident_machine.specs.machine_lines.Straight.{MayWrite, ones, IsAt}
use Rattle.resident_machine.specs.machine_lines.Words.{HoldsWord}
use Rattle.resident_machine.proofs.machine_lines.Steps.{leads_on}
use Rattle.code_templates.specs.code_lines.Lines.{given, leave_frame, return_code, epilogue}
use Rattle.statement_simulation.proofs.expressions.Loads.{ones_front, ones_back}
use Rattle.statement_simulation.proofs.expressions.States.{keeps_same}
use Rattle.statement_simulation.specs.flow.Sites.{World, Site, Live, Fits, IsFlag, Represents}
use Rattle.statement_simulation.proofs.flow.States.{flag_kept, represents_keeps}
use Rattle.call_simulation.specs.frames.Callee.{Back, saved_at, kept_bp, with_fixed, fixed_return, with_return, callee, IsPairedAt, HoldsResult}
use Rattle.call_simulation.specs.frames.Chain.{IsChained}
use Rattle.call_simulation.specs.frames.Moves.{Returned}
use Rattle.call_simulation.proofs.frames.Chains.{framed_there}
use Rattle.call_simulation.proofs.frames.Entry.{four_links}
use Rattle.call_simulation.proofs.frames.Fixed.{with_fixed_other, with_fixed_low, with_fixed_high, holds_there}
use Rattle.call_simulation.proofs.frames.Given.{given_run}
use Rattle.call_simulation.proofs.frames.Leave.{back_in, service_in, back_free, back_other, back_beside, near_back, far_back, pair_free, pair_other, frame_back, near_returns, far_returns}
use Rattle.call_simulation.proofs.frames.Opened.{active_closed, closed_outer}

holds_same : (bytes : List ℕ) (g h : Registers) → h.ax ≡ g.ax → h.dx ≡ g.dx → HoldsResult bytes g → HoldsResult bytes h
holds_same [] g h ax dx z = tt
holds_same (a ∷ []) g h ax dx z = ap (λ n. n % 256) ax ∙ z
holds_same (a ∷ b ∷ []) g h ax dx z = (ax ∙ z.0, z.1, z.2)
holds_same (a ∷ b ∷ c ∷ []) g h ax dx z = absurd z
holds_same (a ∷ b ∷ c ∷ d ∷ []) g h ax dx z = (ax ∙ z.0, dx ∙ z.1, z.2, z.3, z.4, z.5)
holds_same (a ∷ b ∷ c ∷ d ∷ e ∷ bytes) g h ax dx z = absurd z

module _ (w : World) (caller : Site) (site : Site) (live : Live) (fits : Fits w caller live) (name : Name) (unit : UnitCode) (r : Routine) (back : Back) (s : State) (r0 : ResidentState) (a : Represents w live s r0) (room : activation_bytes r ≤ live.frame.sp) (deep : 64 + activation_bytes r ≤ live.frame.sp) (fits_inner : Fits w site (callee w name unit r live back)) (chained : IsTrue w.framed → IsChained w live) where
  abbrev f : Frame
  f = live.frame

  abbrev ss : ℕ
  ss = w.choice.stack_segment

  abbrev inner : Live
  inner = callee w name unit r live back

  -- a place outside the stack below the caller's SP
  abbrev IsOuter : ℕ → Type 0
  IsOuter place = 16 * ss ≤ place → 16 * ss + f.sp ≤ place

  -- where the return address stands
  abbrev return_at : ℕ
  return_at = 16 * ss + saved_at r f + 2

  top : f.sp < 65536
  top = let sp = a.sp in let t = a.active.top in omega arith

  inside : 16 * ss + f.sp ≤ 1048576
  inside = let sp = a.sp in let t = a.active.inside in let e = a.active.ss in omega arith

  -- what the machine comes to, from t
  pub record Came (t end : ResidentState) (bytes : List ℕ) : Type 0 where
    pub here : IsAt back.segment back.offset end
    pub sp : end.registers.sp ≡ f.sp
    pub bp : end.registers.bp ≡ f.bp
    pub ss_is : end.registers.ss ≡ t.registers.ss
    pub ds_is : end.registers.ds ≡ t.registers.ds
    pub direction : end.registers.direction ≡ t.registers.direction
    pub holds : HoldsResult bytes end.registers
    pub bytes_are : (place : ℕ) → IsOuter place → end.cells place ≡ t.cells place
    pub freed : (place : ℕ) → ((IsPairedAt r.far return_at place → ⊥) → IsTrue (is_free (t.cells place))) → IsTrue (is_free (end.cells place))
    pub records : end.records ≡ live.records
    pub input : end.input ≡ t.input
    pub taken : end.taken ≡ t.taken
    pub out : end.out ≡ t.out
    pub err : end.err ≡ t.err

  -- ## Fixed bytes

  outer_fixed : (place : ℕ) → IsOuter place → inner.fixed place ≡ live.fixed place
  outer_fixed place outer =
      let y = room in
      let z = deep in
      let four = four_links r.far in
      with_fixed_other (fixed_return r.far live.fixed return_at back.offset) (16 * ss + saved_at r f) (kept_bp r.far f.bp) place (λ e. let o = outer (omega arith) in absurd (omega arith)) (λ e. let o = outer (omega arith) in absurd (omega arith)) ∙ by r.far (four_links r.far)
    where
      by : (far : Bool) → 4 ≤ link_bytes r.far → fixed_return far live.fixed return_at back.offset place ≡ live.fixed place
      by true four = refl
      by false four =
          let y = room in
          with_fixed_other live.fixed return_at back.offset place (λ e. let o = outer (omega (arith, e)) in absurd (omega (arith, e, four))) (λ e. let o = outer (omega (arith, e)) in absurd (omega (arith, e, four)))

  live_outer : (place byte : ℕ) → live.fixed place ≡ Some byte → IsOuter place
  live_outer place byte e low = fits.above place byte e low

  saved_holds : (c : Cells) → ((place byte : ℕ) → inner.fixed place ≡ Some byte → c place ≡ Known byte) → HoldsWord c ss (saved_at r f) (kept_bp r.far f.bp)
  saved_holds c known =
      let t = top in
      let i = inside in
      let y = deep in
      let four = four_links r.far in
      holds_there c ss (saved_at r f) (kept_bp r.far f.bp) (omega arith) (omega arith)
      (known (16 * ss + saved_at r f) (kept_bp r.far f.bp % 256) (with_fixed_low (fixed_return r.far live.fixed return_at back.offset) (16 * ss + saved_at r f) (kept_bp r.far f.bp)))
      (known (16 * ss + saved_at r f + 1) (kept_bp r.far f.bp / 256) (with_fixed_high (fixed_return r.far live.fixed return_at back.offset) (16 * ss + saved_at r f) (kept_bp r.far f.bp)))

  return_holds : (c : Cells) → r.far ≡ false → ((place byte : ℕ) → inner.fixed place ≡ Some byte → c place ≡ Known byte) → HoldsWord c ss (saved_at r f + 2) back.offset
  return_holds c near known =
      let t = top in
      let i = inside in
      let y = deep in
      let link : link_bytes r.far ≡ 4 = ap link_bytes near in
      let at_return : 16 * ss + (saved_at r f + 2) ≡ return_at = omega arith in
      let both : fixed_return r.far live.fixed return_at back.offset ≡ with_fixed live.fixed return_at back.offset = ap (λ far. fixed_return far live.fixed return_at back.offset) near in
      let low = with_fixed_other (fixed_return r.far live.fixed return_at back.offset) (16 * ss + saved_at r f) (kept_bp r.far f.bp) return_at (λ e. absurd (omega arith)) (λ e. absurd (omega arith)) ∙ ap (λ fixed. fixed return_at) both ∙ with_fixed_low live.fixed return_at back.offset in
      let high = with_fixed_other (fixed_return r.far live.fixed return_at back.offset) (16 * ss + saved_at r f) (kept_bp r.far f.bp) (return_at + 1) (λ e. absurd (omega arith)) (λ e. absurd (omega arith)) ∙ ap (λ fixed. fixed (return_at + 1)) both ∙ with_fixed_high live.fixed return_at back.offset in
      holds_there c ss (saved_at r f + 2) back.offset (omega arith) (omega arith)
      (ap c at_return ∙ known return_at (back.offset % 256) low)
      (ap (λ n. c (n + 1)) at_return ∙ known (return_at + 1) (back.offset / 256) high)

  -- ## The caller again

  -- the machine stands for the caller, with the activation's cells shut
  pub came_represents : (u : State) (t end : ResidentState) (bytes : List ℕ) → Represents w inner u t → Came t end bytes → (s.flag ≡ true → u.flag ≡ true) → ((place : ℕ) → (IsPairedAt r.far return_at place → ⊥) → MayWrite r0.cells w.machine.installed place → IsTrue (is_free (t.cells place))) → Represents w live (with_cells u (closed w.choice r f u.cells)) end
  came_represents u t end bytes b c stays free = record {
    active = active_closed w.machine.installed w.choice r f name unit u.cells t.registers t.cells b.active b.sp room end.registers end.cells c.ss_is c.ds_is c.bp c.sp top inside (λ place outer. c.bytes_are place outer) spare;
    sp = c.sp;
    direction = c.direction ∙ b.direction;
    flag = subst (λ cell. IsFlag u.flag cell) (sym (c.bytes_are w.machine.installed flag_outer)) b.flag;
    set = λ e. stays (a.set e);
    outside = λ place byte e. closed_outer w.machine.installed w.choice r f name unit u.cells t.registers t.cells b.active b.sp room place (live_outer place byte e) ∙ b.outside place byte (outer_fixed place (live_outer place byte e) ∙ e);
    fixed = λ place byte e. c.bytes_are place (live_outer place byte e) ∙ b.fixed place byte (outer_fixed place (live_outer place byte e) ∙ e);
    records = c.records;
    unread = ap (λ n. drop n end.input) c.taken ∙ ap (λ l. drop t.taken l) c.input ∙ b.unread;
    bytes = b.bytes;
    read = subst (λ l. end.taken ≤ length l) (sym c.input) (subst (λ n. n ≤ length t.input) (sym c.taken) b.read);
    out = c.out ∙ b.out;
    err = c.err ∙ b.err;
  }
    where
      flag_outer : IsOuter w.machine.installed
      flag_outer low =
          let kept = flag_kept w.machine.installed w.choice f s.cells r0.registers r0.cells a.active in
          let e = a.active.ss in
          let sp = a.sp in
          let z = kept (omega arith) in
          omega arith

      spare : (offset : ℕ) → offset < f.sp → MayWrite end.cells w.machine.installed (16 * ss + offset)
      spare offset less =
          let e = a.active.ss in
          let sp = a.sp in
          let may = subst (λ z. MayWrite r0.cells w.machine.installed (16 * z + offset)) e (a.active.spare offset (omega arith)) in
          record { free = c.freed (16 * ss + offset) (λ apart. free (16 * ss + offset) apart may); apart = may.apart }

  -- ## The returns

  -- the state at the return instruction, with SP at the return address
  record StandsToReturn (t1 : ResidentState) : Type 0 where
    sp : t1.registers.sp ≡ saved_at r f + 2
    ss_is : t1.registers.ss ≡ ss
    bp : t1.registers.bp ≡ f.bp
    fixed : (place byte : ℕ) → inner.fixed place ≡ Some byte → t1.cells place ≡ Known byte
    records : t1.records ≡ inner.records

  near_came : (k : ℕ) (t1 : ResidentState) (bytes : List ℕ) → r.far ≡ false → back.segment ≡ site.segment → StandsToReturn t1 → HoldsResult bytes t1.registers → IsAt site.segment (site.at k) t1 → Stands (IsSpelledAt site.code) site.at site.labels k (ones (return_code false r.arguments ∷ [])) → (end : ResidentState) × Leads w.machine w.framed 1 t1 end × Came t1 end bytes
  near_came k t1 bytes near same h holds here s =
      let sp = h.sp in
      let t = top in
      let y = deep in
      let i = inside in
      let link : link_bytes r.far ≡ 4 = ap link_bytes near in
      let word1 = return_holds t1.cells near h.fixed in
      let word2 = subst (λ z. HoldsWord t1.cells z (saved_at r f + 2) back.offset) (sym h.ss_is) word1 in
      let word3 = subst (λ o. HoldsWord t1.cells t1.registers.ss o back.offset) (sym h.sp) word2 in
      let g = near_back w.machine w.framed site.segment site.code site.at site.labels fits_inner.placed t1.registers r.arguments back.offset in
      let end = with_memory t1 g t1.cells in
      let l = near_returns w.machine w.framed site.segment site.code site.at site.labels fits_inner.placed k r.arguments back.offset t1 word3 (omega arith) (omega arith) here s in (
        end,
        l,
        record {
          here = record { running = here.running; half = here.half; segment = here.segment ∙ sym same; offset = refl };
          sp = omega arith;
          bp = h.bp;
          ss_is = refl;
          ds_is = refl;
          direction = refl;
          holds = holds_same bytes t1.registers g refl refl holds;
          bytes_are = λ place outer. refl;
          freed = λ place free. free (λ q. never place r.far near q);
          records = h.records ∙ ap (λ far. with_return far (saved_at r f + 2) back live.records) near;
          input = refl;
          taken = refl;
          out = refl;
          err = refl;
        },
      )
    where
      never : (place : ℕ) (far : Bool) → far ≡ false → IsPairedAt far return_at place → ⊥
      never place true e q = absurd (cc)
      never place false e q = q

  -- the record of the call
  abbrev top_record : Record
  top_record = record { place = saved_at r f + 2; segment = back.segment; offset = back.offset }

  far_came : (k : ℕ) (t1 : ResidentState) (bytes : List ℕ) → r.far ≡ true → StandsToReturn t1 → HoldsResult bytes t1.registers → ((place : ℕ) → (IsPairedAt r.far return_at place → ⊥) → MayWrite r0.cells w.machine.installed place → IsTrue (is_free (t1.cells place))) → IsAt site.segment (site.at k) t1 → Stands (IsSpelledAt site.code) site.at site.labels k (ones (return_code true r.arguments ∷ [])) → (end : ResidentState) × Leads w.machine w.framed 1 t1 end × Came t1 end bytes
  far_came k t1 bytes far h holds free here stands =
      let records = h.records ∙ ap (λ z. with_return z (saved_at r f + 2) back live.records) far in
      let ip = site.at (k + 1) in
      let end = far_back w.machine w.framed site.segment site.code site.at site.labels fits_inner.placed t1 ip r.arguments top_record live.records in
      let c = came in
      (end, far_returns w.machine w.framed site.segment site.code site.at site.labels fits_inner.placed k r.arguments top_record live.records t1 records (sym h.sp) here stands (c.bytes_are w.machine.installed flag_outer) owed, c)
    where
      link : link_bytes r.far ≡ 6
      link = ap link_bytes far

      g : Registers
      g = at_offset t1.registers (site.at (k + 1))

      -- before what a service may overwrite
      plain : ResidentState
      plain = returned t1 g t1.cells r.arguments top_record live.records

      whole : ResidentState
      whole = back_in back.segment plain

      at_sp : g.sp ≡ saved_at r f + 2
      at_sp = h.sp

      at_ss : g.ss ≡ ss
      at_ss = h.ss_is

      raised_is : (g.sp + (4 + r.arguments)) % 65536 ≡ f.sp
      raised_is = let sp = at_sp in let t = top in let y = deep in let e = link in omega arith

      flag_outer : IsOuter w.machine.installed
      flag_outer low =
          let kept = flag_kept w.machine.installed w.choice f s.cells r0.registers r0.cells a.active in
          let e = a.active.ss in
          let sp = a.sp in
          let z = kept (omega arith) in
          omega arith

      there : 16 * g.ss + g.sp ≡ return_at
      there = let sp = at_sp in let e = at_ss in omega arith

      pair_top : g.sp + 4 ≤ 65536
      pair_top = let sp = at_sp in let t = top in let y = deep in let e = link in omega arith

      pair_inside : 16 * g.ss + g.sp + 4 ≤ 1048576
      pair_inside = let sp = at_sp in let e = at_ss in let i = inside in let y = deep in let l = link in omega arith

      plain_other : (place : ℕ) → IsOuter place → plain.cells place ≡ t1.cells place
      plain_other place outer = pair_other g t1.cells return_at place pair_top pair_inside there (λ q. let low = q.0 in let high = q.1 in let y = deep in let e = link in let o = outer (omega arith) in absurd (omega arith))

      below_apart : (place k : ℕ) → IsOuter place → k < 64 → place ≢ below plain.registers.ss plain.registers.sp k
      below_apart place k outer less e =
          let sp = raised_is in
          let z = at_ss in
          let t = top in
          let i = inside in
          let y = deep in
          let same : below ss f.sp k ≡ 16 * ss + (f.sp - 1 - k) = omega (arith, less) in
          let moved = ap (λ n. below n plain.registers.sp k) at_ss ∙ ap (λ n. below ss n k) raised_is in
          let place_is : place ≡ 16 * ss + (f.sp - 1 - k) = e ∙ moved ∙ same in
          let o = outer (omega (arith, place_is)) in
          absurd (omega (arith, place_is, o, less))

      came : Came t1 whole bytes
      came =
          let beside = back_beside back.segment plain in
          let regs = beside.registers in
          record {
            here = record { running = beside.status ∙ here.running; half = beside.half ∙ here.half; segment = beside.cs; offset = ap (λ (z : Registers). z.ip) regs };
            sp = ap (λ (z : Registers). z.sp) regs ∙ raised_is;
            bp = ap (λ (z : Registers). z.bp) regs ∙ h.bp;
            ss_is = ap (λ (z : Registers). z.ss) regs;
            ds_is = ap (λ (z : Registers). z.ds) regs;
            direction = ap (λ (z : Registers). z.direction) regs;
            holds = holds_same bytes t1.registers whole.registers (ap (λ (z : Registers). z.ax) regs) (ap (λ (z : Registers). z.dx) regs) holds;
            bytes_are = λ place outer. back_other back.segment plain place (λ k less. below_apart place k outer less) ∙ plain_other place outer;
            freed = λ place free. back_free back.segment plain place (pair_free g t1.cells return_at place pair_top pair_inside there (λ apart. free (λ q. apart (as_true place q))));
            records = beside.records;
            input = beside.input;
            taken = beside.taken;
            out = beside.out;
            err = beside.err;
          }
        where
          as_true : (place : ℕ) → IsPairedAt r.far return_at place → IsPairedAt true return_at place
          as_true place q = subst (λ z. IsPairedAt z return_at place) far q

      may_below : (offset : ℕ) → offset < f.sp → MayWrite r0.cells w.machine.installed (16 * ss + offset)
      may_below offset less =
          let e = a.active.ss in
          let sp = a.sp in
          subst (λ z. MayWrite r0.cells w.machine.installed (16 * z + offset)) e (a.active.spare offset (omega arith))

      framed_back : IsTrue w.framed → IsFramed w.machine false whole
      framed_back e =
          let c = came in
          let sp = c.sp in
          let t = top in
          let i = inside in
          let y = deep in
          framed_there w caller live fits false whole (chained e) (c.ss_is ∙ h.ss_is) c.bp (omega arith) (omega arith) (omega arith) (omega arith)
          (λ place byte known. c.bytes_are place (live_outer place byte known) ∙ h.fixed place byte (outer_fixed place (live_outer place byte known) ∙ known))
          (ap places_of c.records ∙ (chained e).places) (λ z. absurd (cc))
          (λ offset less. let may = may_below offset (omega (arith, less)) in (c.freed (16 * ss + offset) (λ apart. free (16 * ss + offset) apart may), may.apart))

      after_by : (to : Segment) → IsFramed w.machine false whole → FramedAfter w.machine (service_in to) whole
      after_by (Image number) h = tt
      after_by (Overlay number) h = h

      owed : Owed w.framed w.machine (service_in back.segment) whole
      owed = by w.framed refl
        where
          by : (framed : Bool) → w.framed ≡ framed → Owed framed w.machine (service_in back.segment) whole
          by true e = after_by back.segment (framed_back e)
          by false e = tt

  -- ## All of them

  -- the caller's link lies above its BP
  small_bp : f.bp < 65535
  small_bp =
      let link = fits.suits.link in
      let small = fits.suits.link_small in
      let four = four_links caller.context.far in
      omega arith

  came_back : (k : ℕ) (t1 : ResidentState) (bytes : List ℕ) → (r.far ≡ false → back.segment ≡ site.segment) → StandsToReturn t1 → HoldsResult bytes t1.registers → ((place : ℕ) → (IsPairedAt r.far return_at place → ⊥) → MayWrite r0.cells w.machine.installed place → IsTrue (is_free (t1.cells place))) → IsAt site.segment (site.at k) t1 → Stands (IsSpelledAt site.code) site.at site.labels k (ones (return_code r.far r.arguments ∷ [])) → (end : ResidentState) × Leads w.machine w.framed 1 t1 end × Came t1 end bytes
  came_back k t1 bytes same h holds free here stands = by r.far refl
    where
      by : (far : Bool) → r.far ≡ far → (end : ResidentState) × Leads w.machine w.framed 1 t1 end × Came t1 end bytes
      by true e = far_came k t1 bytes e h holds free here (subst (λ far. Stands (IsSpelledAt site.code) site.at site.labels k (ones (return_code far r.arguments ∷ []))) e stands)
      by false e = near_came k t1 bytes e (same e) h holds here (subst (λ far. Stands (IsSpelledAt site.code) site.at site.labels k (ones (return_code far r.arguments ∷ []))) e stands)

  -- behind the result, the frame and the return
  left_by : (m k : ℕ) (t0 t : ResidentState) (bytes : List ℕ) → (count : ℕ) → count ≤ m → Leads w.machine w.framed count t0 t → (r.far ≡ false → back.segment ≡ site.segment) → (u : State) → Represents w inner u t → HoldsResult bytes t.registers → (s.flag ≡ true → u.flag ≡ true) → ((place : ℕ) → (IsPairedAt r.far return_at place → ⊥) → MayWrite r0.cells w.machine.installed place → IsTrue (is_free (t.cells place))) → t.cells ≡ t0.cells → t.input ≡ t0.input → IsAt site.segment (site.at k) t → Stands (IsSpelledAt site.code) site.at site.labels k (ones (leave_frame r.far ++ (return_code r.far r.arguments ∷ []))) → Returned w live r back (m + length (leave_frame r.far ++ (return_code r.far r.arguments ∷ []))) u t0 bytes
  left_by m k t0 t bytes count few leads same u b holds stays free same_cells same_input here stands =
      let y = deep in
      let tp = top in
      let bp = b.active.bp in
      let four = four_links r.far in
      let kept = kept_bp r.far f.bp in
      let leave = leave_frame r.far in
      let last = return_code r.far r.arguments ∷ [] in
      let word1 = saved_holds t.cells b.fixed in
      let word2 = subst (λ z. HoldsWord t.cells z (saved_at r f) kept) (sym b.active.ss) word1 in
      let word3 = subst (λ o. HoldsWord t.cells t.registers.ss o kept) (sym b.active.bp) word2 in
      let front = ones_front (IsSpelledAt site.code) site.at site.labels k leave last stands in
      let behind = ones_back (IsSpelledAt site.code) site.at site.labels k leave last stands in
      let l = frame_back w.machine w.framed site.segment site.code site.at site.labels fits_inner.placed r.far k f.bp t word3 small_bp (omega arith) (omega arith) here front in
      let t1 = with_memory t l.registers t.cells in
      let to_return : StandsToReturn t1 = record { sp = l.sp ∙ ap (λ n. n + 2) b.active.bp; ss_is = l.ss ∙ b.active.ss; bp = l.bp; fixed = b.fixed; records = b.records } in
      let c = came_back (k + length leave) t1 bytes same to_return (holds_same bytes t.registers l.registers l.ax l.dx holds) free l.here behind in
      let came = c.2 in
      let came_t : Came t c.0 bytes = record { here = came.here; sp = came.sp; bp = came.bp; ss_is = came.ss_is ∙ l.ss; ds_is = came.ds_is ∙ l.ds; direction = came.direction ∙ l.direction; holds = came.holds; bytes_are = came.bytes_are; freed = came.freed; records = came.records; input = came.input; taken = came.taken; out = came.out; err = came.err } in
      let size = length-append leave last in
      record {
        count = count + (length leave + 1);
        few = omega (arith, few);
        end = c.0;
        leads = leads_on w.machine w.framed count (length leave + 1) t0 t c.0 leads (leads_on w.machine w.framed (length leave) 1 t t1 c.0 l.leads c.1);
        here = came.here;
        stands = came_represents u t c.0 bytes b came_t stays free;
        holds = came.holds;
        freed = λ place h. came.freed place (λ apart. subst (λ cells. IsTrue (is_free (cells place))) (sym same_cells) (h apart));
        input = came.input ∙ same_input;
      }

  pub exit_run : (k : ℕ) (u : State) (t : ResidentState) (bytes : List ℕ) → (r.far ≡ false → back.segment ≡ site.segment) → HasResultSize r.result → result_bytes w.choice inner.frame u.cells r.result ≡ Ok bytes → Represents w inner u t → (s.flag ≡ true → u.flag ≡ true) → ((place : ℕ) → (IsPairedAt r.far return_at place → ⊥) → MayWrite r0.cells w.machine.installed place → IsTrue (is_free (t.cells place))) → IsAt site.segment (site.at k) t → Stands (IsSpelledAt site.code) site.at site.labels k (ones (epilogue site.context r)) → Returned w live r back (length (epilogue site.context r)) u t bytes
  exit_run k u t bytes same sized e b stays free here stands =
      let x = site.context in
      let gs = given x r.result in
      let ls = leave_frame r.far ++ (return_code r.far r.arguments ∷ []) in
      let size = length-append gs ls in
      let sp = b.sp in
      let y = deep in
      let h = given_run w.machine w.framed site.segment site.code site.at site.labels fits_inner.placed x w.choice inner.frame u.cells fits_inner.suits r.result k t bytes sized here b.active (omega arith) e (ones_front (IsSpelledAt site.code) site.at site.labels k gs ls stands) in
      let t1 = with_memory t h.registers t.cells in
      let b1 = represents_keeps w site inner fits_inner u t h.registers t.cells b (keeps_same t.registers h.registers t.cells h.stays.sp h.stays.bp h.stays.ss h.stays.ds h.stays.direction) in
      let behind = ones_back (IsSpelledAt site.code) site.at site.labels k gs ls stands in
      let whole : length gs + length ls ≡ length (gs ++ ls) = omega arith in
      subst (λ n. Returned w live r back n u t bytes) whole (left_by (length gs) (k + length gs) t t1 bytes h.count h.few h.leads same u b1 h.holds stays free refl refl h.here behind)

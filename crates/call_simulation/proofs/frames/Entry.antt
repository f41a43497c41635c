-- A routine is begun: behind its first lines the machine stands for its activation.
use Rattle.std.proofs.Common.{◌≡◌, ◌≢◌, ℕ, ◌+◌, ◌-◌, ◌*◌, ◌/◌, ◌%◌, ◌<◌, ◌≤◌, Bool, true, false, List, ◌∷◌, length, Some, arith, refl, sym, ap, subst, ◌∙◌}
use Rattle.std.specs.Prelude.{drop}
use Rattle.x86_table.specs.Standing.{IsSpelledAt, Stands}
use Rattle.flat_code.specs.declared.memory.Cell.TheVariants as flat
use Rattle.flat_code.specs.Program.{Name, Routine, UnitCode}
use Rattle.flat_code.specs.Values.{Frame}
use Rattle.flat_code.specs.Calls.{State, with_cells, activation_bytes, link_bytes, opened}
use Rattle.cpu_8086.specs.declared.registers.Registers.{Registers}
use Rattle.cpu_8086.specs.Memory.{address, next_offset}
use Rattle.resident_machine.specs.Cells.{Known, Cells}
use Rattle.resident_machine.specs.Effect.{with_memory}
use Rattle.resident_machine.specs.State.{ResidentState}
use Rattle.resident_machine.specs.machine_lines.Straight.{MayWrite, ones, Placed, IsAt}
use Rattle.resident_machine.specs.machine_lines.Words.{HoldsWord, stored}
use Rattle.resident_machine.proofs.machine_lines.Words.{stored_holds, stored_other}
use Rattle.code_templates.specs.code_lines.Lines.{prologue}
use Rattle.statement_simulation.specs.expressions.Active.{Suits, IsKept}
use Rattle.statement_simulation.specs.expressions.Evaluates.{IsCode, Fails}
use Rattle.effect_simulation.specs.effects.Pushed.{HoldsWords}
use Rattle.statement_simulation.specs.flow.Sites.{World, Site, Live, Fits, IsFlag, Represents}
use Rattle.statement_simulation.proofs.flow.States.{flag_kept, fixed_kept}
use Rattle.call_simulation.specs.frames.Callee.{Back, return_bytes, saved_at, kept_bp, fixed_return, with_return, callee, Returns, IsPaired, Entered}
use Rattle.call_simulation.specs.frames.Moves.{Started}
use Rattle.call_simulation.proofs.frames.Fixed.{with_fixed_cases, words_still, low_there, high_there}
use Rattle.call_simulation.proofs.frames.Opened.{IsLink, opened_link, opened_kept, active_opened}
use Rattle.call_simulation.proofs.frames.Prologue.{Begun, HasWordBelow, begins, refuses}

pub link_is : (far : Bool) → link_bytes far ≡ return_bytes far + 2
link_is true = refl
link_is false = refl

pub not_paired_below : (far : Bool) (g : Registers) (place : ℕ) → place < 16 * g.ss + g.sp → IsPaired far g place → ⊥
not_paired_below true g place less e = let z = e.0 in absurd (omega arith)
not_paired_below false g place less e = e

-- the bytes of a return address are link bytes
paired_bounds : (far : Bool) (g : Registers) (place : ℕ) → IsPaired far g place → (16 * g.ss + g.sp ≤ place) × (place < 16 * g.ss + g.sp + return_bytes far)
paired_bounds true g place e = (e.0, e.1)
paired_bounds false g place e = absurd e

pub four_links : (far : Bool) → 4 ≤ link_bytes far
four_links true = omega arith
four_links false = omega arith

-- the arguments and the link have room where all of the activation has
pub linked_in : (r : Routine) (live : Live) → activation_bytes r ≤ live.frame.sp → r.arguments + link_bytes r.far ≤ live.frame.sp
linked_in r live room = omega (arith, room)

module _ (w : World) (caller : Site) (site : Site) (placed : Placed w.machine site.segment site.code site.at) (live : Live) (fits : Fits w caller live) (name : Name) (unit : UnitCode) (r : Routine) (back : Back) (vs : List ℕ) (s : State) (r0 t : ResidentState) (a : Represents w live s r0) (e : Entered live r.far back site.segment vs r0 t) (handed : 2 * length vs ≡ r.arguments) (linked : r.arguments + link_bytes r.far ≤ live.frame.sp) where
  abbrev f : Frame
  f = live.frame

  abbrev base : ℕ
  base = 16 * w.choice.stack_segment

  -- SP as the routine is entered
  entry_sp : t.registers.sp ≡ saved_at r f + 2
  entry_sp = let sp = e.sp in let link = link_is r.far in let y = linked in let h = handed in omega arith

  entry_ss : t.registers.ss ≡ w.choice.stack_segment
  entry_ss = e.ss ∙ a.active.ss

  saved_is : t.registers.sp - 2 ≡ saved_at r f
  saved_is = let sp = entry_sp in omega arith

  entry_top : t.registers.sp < 65535
  entry_top = let sp = e.sp in let caller = a.sp in let top = a.active.top in let link = link_is r.far in by r.far sp
    where
      by : (far : Bool) → t.registers.sp + return_bytes far + 2 * length vs ≡ live.frame.sp → t.registers.sp < 65535
      by true sp = let caller = a.sp in let top = a.active.top in omega arith
      by false sp = let caller = a.sp in let top = a.active.top in omega arith

  entry_below : t.registers.sp + 2 + 2 * length vs ≤ f.sp
  entry_below = let sp = e.sp in by r.far sp
    where
      by : (far : Bool) → t.registers.sp + return_bytes far + 2 * length vs ≡ live.frame.sp → t.registers.sp + 2 + 2 * length vs ≤ live.frame.sp
      by true sp = omega arith
      by false sp = omega arith

  entry_inside : base + f.sp ≤ 1048576
  entry_inside = let caller = a.sp in let inside = a.active.inside in let ss = a.active.ss in omega arith

  -- a byte of the stack below SP may be written
  pub below_may : (offset : ℕ) → offset < t.registers.sp → MayWrite t.cells w.machine.installed (16 * t.registers.ss + offset)
  below_may offset less =
      let below = entry_below in
      let caller = a.sp in
      let may = a.active.spare offset (omega arith) in
      let at_ss = subst (λ z. MayWrite r0.cells w.machine.installed (16 * z + offset)) (sym e.ss) may in
      record { free = e.free (16 * t.registers.ss + offset) at_ss.free (not_paired_below r.far t.registers (16 * t.registers.ss + offset) (omega arith)); apart = at_ss.apart }

  -- BP is that of the caller, above which its link lies
  bp_is : t.registers.bp ≡ f.bp
  bp_is = e.bp ∙ a.active.bp

  small_bp : t.registers.bp < 65535
  small_bp =
      let link = fits.suits.link in
      let small = fits.suits.link_small in
      let four = four_links caller.context.far in
      let is = bp_is in
      omega arith

  pub has_word_below : 66 ≤ t.registers.sp → HasWordBelow w.machine w.framed site.segment site.code site.at site.labels placed t
  has_word_below enough =
      let top = entry_top in
      let ss = entry_ss in
      let inside = entry_inside in
      let below = entry_below in
      record {
        room = omega arith;
        top = omega arith;
        low = subst (λ place. MayWrite t.cells w.machine.installed place) {x = 16 * t.registers.ss + (t.registers.sp - 2)} {y = address t.registers.ss (t.registers.sp - 2)} (omega arith) (below_may (t.registers.sp - 2) (omega arith));
        high = subst (λ place. MayWrite t.cells w.machine.installed place) {x = 16 * t.registers.ss + (t.registers.sp - 1)} {y = address t.registers.ss (next_offset (t.registers.sp - 2))} (omega arith) (below_may (t.registers.sp - 1) (omega arith));
        word = small_bp;
      }

  -- too little of the stack is left
  pub entry_fails : (k : ℕ) → IsCode w.machine site.context.addresses.error_routine → 66 ≤ t.registers.sp → 0 < r.frame → f.sp < 512 + activation_bytes r → IsAt site.segment (site.at k) t → Stands (IsSpelledAt site.code) site.at site.labels k (ones (prologue site.context r)) → Fails w.machine w.framed site.context.addresses.error_routine 7 t 202
  entry_fails k named enough some little here stands =
      let sp = entry_sp in
      let top = entry_top in
      let y = linked in
      let ss = entry_ss in
      let below = entry_below in
      let inside = entry_inside in
      refuses w.machine w.framed site.segment site.code site.at site.labels placed site.context named k r t (has_word_below enough) enough some (omega arith) (omega arith) (omega arith) here stands

  -- ## The bytes behind the routine's first lines

  abbrev d : Cells
  d = stored t.cells t.registers.ss (t.registers.sp - 2) (kept_bp r.far t.registers.bp)

  -- a place that is no byte of the saved BP
  d_other : (place : ℕ) → 66 ≤ t.registers.sp → (place ≡ base + saved_at r f → ⊥) → (place ≡ base + saved_at r f + 1 → ⊥) → d place ≡ t.cells place
  d_other place enough low high =
      let ss = entry_ss in
      let inside = entry_inside in
      let below = entry_below in
      let saved = saved_is in
      stored_other t.cells t.registers.ss (t.registers.sp - 2) (kept_bp r.far t.registers.bp) place (λ z. low (omega arith)) (λ z. high (omega arith))

  d_kept : (place : ℕ) → 66 ≤ t.registers.sp → IsKept r0.registers place → d place ≡ r0.cells place
  d_kept place enough kept =
      let ss = a.active.ss in
      let caller = a.sp in
      let below = entry_below in
      let saved = saved_is in
      d_other place enough (λ z. let y = kept (omega arith) in omega arith) (λ z. let y = kept (omega arith) in omega arith) ∙ e.bytes place kept

  d_saved : 66 ≤ t.registers.sp → HoldsWord d w.choice.stack_segment (saved_at r f) (kept_bp r.far f.bp)
  d_saved enough =
      let top = entry_top in
      let kept = kept_bp r.far t.registers.bp in
      let h = stored_holds t.cells t.registers.ss (t.registers.sp - 2) kept (omega arith) in
      let h1 = subst (λ z. HoldsWord d z (t.registers.sp - 2) kept) entry_ss h in
      let h2 = subst (λ o. HoldsWord d w.choice.stack_segment o kept) saved_is h1 in
      subst (λ v. HoldsWord d w.choice.stack_segment (saved_at r f) (kept_bp r.far v)) bp_is h2

  -- a byte of a near return address
  d_return : (v : ℕ) → 66 ≤ t.registers.sp → HoldsWord t.cells r0.registers.ss t.registers.sp v → HoldsWord d w.choice.stack_segment (saved_at r f + 2) v
  d_return v enough h =
      let ss = a.active.ss in
      let top = entry_top in
      let sp = entry_sp in
      let inside = entry_inside in
      let below = entry_below in
      let h1 = subst (λ z. HoldsWord t.cells z t.registers.sp v) a.active.ss h in
      let h2 = subst (λ o. HoldsWord t.cells w.choice.stack_segment o v) sp h1 in
      record {
        low = d_other (address w.choice.stack_segment (saved_at r f + 2)) enough (λ z. absurd (omega arith)) (λ z. absurd (omega arith)) ∙ h2.low;
        high = d_other (address w.choice.stack_segment (next_offset (saved_at r f + 2))) enough (λ z. absurd (omega arith)) (λ z. absurd (omega arith)) ∙ h2.high;
      }

  d_words : 66 ≤ t.registers.sp → HoldsWords d w.choice.stack_segment f.sp vs
  d_words enough =
      let inside = entry_inside in
      let below = entry_below in
      let saved = saved_is in
      let caller = a.sp in
      let top = a.active.top in
      let h1 = subst (λ z. HoldsWords t.cells z r0.registers.sp vs) a.active.ss e.words in
      let h2 = subst (λ o. HoldsWords t.cells w.choice.stack_segment o vs) a.sp h1 in
      words_still t.cells d w.choice.stack_segment f.sp vs (omega arith) (omega arith)
      (λ offset more less. d_other (address w.choice.stack_segment offset) enough (λ z. absurd (omega arith)) (λ z. absurd (omega arith))) h2

  -- ## The activation

  module _ (room : activation_bytes r ≤ live.frame.sp) where
    abbrev inner : Live
    inner = callee w name unit r live back

    -- a fixed byte of the new activation
    fixed_zone : {P : Type 0} (place byte : ℕ) → inner.fixed place ≡ Some byte → (place ≡ base + saved_at r f → kept_bp r.far f.bp % 256 ≡ byte → P) → (place ≡ base + saved_at r f + 1 → kept_bp r.far f.bp / 256 ≡ byte → P) → (r.far ≡ false → place ≡ base + saved_at r f + 2 → back.offset % 256 ≡ byte → P) → (r.far ≡ false → place ≡ base + saved_at r f + 2 + 1 → back.offset / 256 ≡ byte → P) → (live.fixed place ≡ Some byte → P) → P
    fixed_zone {P} place byte known low high first second other =
        with_fixed_cases (fixed_return r.far live.fixed (base + saved_at r f + 2) back.offset) (base + saved_at r f) (kept_bp r.far f.bp) place byte known low high (λ z. by r.far refl z)
      where
        by : (far : Bool) → r.far ≡ far → fixed_return far live.fixed (base + saved_at r f + 2) back.offset place ≡ Some byte → P
        by true is z = other z
        by false is z = with_fixed_cases live.fixed (base + saved_at r f + 2) back.offset place byte z (λ p q. first is p q) (λ p q. second is p q) other

    pub inner_above : (place byte : ℕ) → inner.fixed place ≡ Some byte → 16 * w.choice.stack_segment ≤ place → 16 * w.choice.stack_segment + inner.frame.sp ≤ place
    inner_above place byte known low =
        let y = room in
        fixed_zone place byte known (λ z q. omega (arith, z)) (λ z q. omega (arith, z)) (λ is z q. omega (arith, z)) (λ is z q. omega (arith, z)) (λ z. let more = fits.above place byte z low in omega arith)

    pub inner_apart : (place byte : ℕ) → inner.fixed place ≡ Some byte → place ≢ w.machine.installed
    inner_apart place byte known =
        fixed_zone place byte known (λ z q. within 0 (omega (arith, four)) (omega (arith, z))) (λ z q. within 1 (omega (arith, four)) (omega (arith, z))) (λ is z q. within 2 (omega (arith, four)) (omega (arith, z))) (λ is z q. within 3 (omega (arith, four)) (omega (arith, z))) (λ z. fits.apart place byte z)
      where
        within : (i : ℕ) → i < link_bytes r.far → place ≡ base + saved_at r f + i → place ≢ w.machine.installed
        within i less z =
            let y = room in
            let caller = a.sp in
            let ss = a.active.ss in
            let may = a.active.spare (saved_at r f + i) (omega (arith, less)) in
            subst (λ x. x ≢ w.machine.installed) {x = 16 * r0.registers.ss + (saved_at r f + i)} {y = place} (omega (arith, z)) may.apart

        four : 4 ≤ link_bytes r.far
        four = four_links r.far

    -- the code of the routine fits its activation
    pub inner_fits : IsCode w.machine site.context.addresses.error_routine → Suits site.context w.choice inner.frame → Fits w site inner
    inner_fits error suits = record { placed = placed; error = error; suits = suits; above = inner_above; apart = inner_apart }

    inner_outside : (place byte : ℕ) → inner.fixed place ≡ Some byte → opened w.choice r f vs s.cells place ≡ flat.Outside
    inner_outside place byte known =
        fixed_zone place byte known (λ z q. link 0 (omega (arith, four)) (omega (arith, z))) (λ z q. link 1 (omega (arith, four)) (omega (arith, z))) (λ is z q. link 2 (omega (arith, four)) (omega (arith, z))) (λ is z q. link 3 (omega (arith, four)) (omega (arith, z)))
        (λ z. opened_kept w.machine.installed w.choice r f vs s.cells r0.registers r0.cells a.active a.sp handed room place (fixed_kept w caller live fits s r0 place byte a z) ∙ a.outside place byte z)
      where
        four : 4 ≤ link_bytes r.far
        four = four_links r.far

        link : (i : ℕ) → i < link_bytes r.far → place ≡ base + saved_at r f + i → opened w.choice r f vs s.cells place ≡ flat.Outside
        link i less z =
            let y = room in
            opened_link w.machine.installed w.choice r f vs s.cells r0.registers r0.cells a.active a.sp handed room place (omega (arith, z), omega (arith, z, less))

    inner_known : (place byte : ℕ) → 66 ≤ t.registers.sp → inner.fixed place ≡ Some byte → d place ≡ Known byte
    inner_known place byte enough known =
        let saved = d_saved enough in
        let inside = entry_inside in
        let top = entry_top in
        let sp = entry_sp in
        let below = entry_below in
        fixed_zone place byte known
        (λ z q. ap d z ∙ low_there d w.choice.stack_segment (saved_at r f) (kept_bp r.far f.bp) (omega arith) saved ∙ ap (λ n. Known n) q)
        (λ z q. ap d z ∙ high_there d w.choice.stack_segment (saved_at r f) (kept_bp r.far f.bp) (omega arith) (omega arith) saved ∙ ap (λ n. Known n) q)
        (λ is z q. ap d (z ∙ (omega arith)) ∙ low_there d w.choice.stack_segment (saved_at r f + 2) back.offset (omega arith) (returned is) ∙ ap (λ n. Known n) q)
        (λ is z q. ap d (z ∙ (omega arith)) ∙ high_there d w.choice.stack_segment (saved_at r f + 2) back.offset (omega arith) (omega arith) (returned is) ∙ ap (λ n. Known n) q)
        (λ z. d_kept place enough (fixed_kept w caller live fits s r0 place byte a z) ∙ a.fixed place byte z)
      where
        returned : r.far ≡ false → HoldsWord d w.choice.stack_segment (saved_at r f + 2) back.offset
        returned is = by r.far is e.return
          where
            by : (far : Bool) → far ≡ false → Returns far back site.segment r0 t → HoldsWord d w.choice.stack_segment (saved_at r f + 2) back.offset
            by true z h = absurd (cc)
            by false z h = d_return back.offset enough h.1

    inner_records : t.records ≡ inner.records
    inner_records = by r.far e.return
      where
        by : (far : Bool) → Returns far back site.segment r0 t → t.records ≡ with_return far (saved_at r f + 2) back live.records
        by true h = h ∙ ap (λ n. record { place = n; segment = back.segment; offset = back.offset } ∷ r0.records) entry_sp ∙ ap (λ rs. record { place = saved_at r f + 2; segment = back.segment; offset = back.offset } ∷ rs) a.records
        by false h = h.0 ∙ a.records

    -- the machine stands for the activation
    pub begun_represents : (n ip : ℕ) → 66 ≤ t.registers.sp → (w.program.overlaid name ≡ true → s.flag ≡ true) → (b : Begun w.machine w.framed site.segment site.code site.at site.labels placed r.far n ip r.locals t) → Represents w inner (with_cells s (opened w.choice r f vs s.cells)) (with_memory t b.registers d)
    begun_represents n ip enough admitted b =
        let saved = saved_is in
        let y = room in
        let lowered = b.sp in
        let flag_is = d_kept w.machine.installed enough (flag_kept w.machine.installed w.choice f s.cells r0.registers r0.cells a.active) in
        let input = e.input in
        record {
          active = active_opened w.machine.installed w.choice r f vs s.cells r0.registers r0.cells a.active a.sp handed room name unit b.registers d (b.ss ∙ e.ss) (b.ds ∙ e.ds) (b.bp ∙ saved) (omega arith) (d_words enough) (λ place kept. d_kept place enough kept) may;
          sp = omega arith;
          direction = b.direction ∙ e.direction ∙ a.direction;
          flag = subst (λ cell. IsFlag s.flag cell) (sym flag_is) a.flag;
          set = admitted;
          outside = inner_outside;
          fixed = λ place byte known. inner_known place byte enough known;
          records = inner_records;
          unread = ap (λ n. drop n t.input) e.taken ∙ ap (λ l. drop r0.taken l) e.input ∙ a.unread;
          bytes = a.bytes;
          read = subst (λ l. t.taken ≤ length l) (sym e.input) (subst (λ n. n ≤ length r0.input) (sym e.taken) a.read);
          out = e.out ∙ a.out;
          err = e.err ∙ a.err;
        }
      where
        may : (place : ℕ) → (IsLink w.machine.installed w.choice r f vs s.cells r0.registers r0.cells a.active a.sp handed room place → ⊥) → MayWrite r0.cells w.machine.installed place → MayWrite d w.machine.installed place
        may place apart m = record {
          free = b.opens.free place (e.free place m.free (λ q. apart (link_bounds q)));
          apart = m.apart;
        }
          where
            link_bounds : IsPaired r.far t.registers place → (base + saved_at r f ≤ place) × (place < base + (f.sp - r.arguments))
            link_bounds q =
                let z = paired_bounds r.far t.registers place q in
                let low = z.0 in
                let high = z.1 in
                let ss = entry_ss in
                let sp = entry_sp in
                let link = link_is r.far in
                let y = room in
                (omega arith, omega arith)

    -- ## The lines

    pub entry_run : (k : ℕ) → 66 ≤ t.registers.sp → (0 < r.frame → 512 + activation_bytes r ≤ f.sp) → (w.program.overlaid name ≡ true → s.flag ≡ true) → IsAt site.segment (site.at k) t → Stands (IsSpelledAt site.code) site.at site.labels k (ones (prologue site.context r)) → Started w site inner (length (prologue site.context r)) (site.at (k + length (prologue site.context r))) (with_cells s (opened w.choice r f vs s.cells)) t
    entry_run k enough tested admitted here stands =
        let sp = entry_sp in
        let y = room in
        let n = length (prologue site.context r) in
        let b = begins w.machine w.framed site.segment site.code site.at site.labels placed site.context k r t (has_word_below enough) (omega arith) (λ some. let z = tested some in omega arith) (omega arith) here stands in
        record {
          count = b.opens.count;
          few = b.opens.few;
          end = with_memory t b.registers d;
          leads = b.opens.leads;
          here = b.opens.here;
          stands = begun_represents n (site.at (k + n)) enough admitted b;
          free = b.opens.free;
          input = refl;
        }

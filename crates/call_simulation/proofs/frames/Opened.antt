-- The cells of flat code as an activation begins and ends, and the machine's bytes.
use Rattle.std.proofs.Common.{◌≡◌, ℕ, ◌+◌, ◌-◌, ◌*◌, ◌/◌, ◌%◌, ◌<◌, ◌≤◌, inl, inr, List, [], ◌∷◌, length, arith, sym, ap, subst, ◌∙◌, ⊎_elim}
use Rattle.std.specs.Prelude.{IsTrue}
use Rattle.std.proofs.lemmas.Bool.{cases_lt}
use Rattle.common_values.specs.integers.Words.{low_byte, high_byte}
use Rattle.flat_code.specs.declared.memory.Cell as flat_cell
use Rattle.flat_code.specs.declared.memory.Cell.TheVariants as flat
use Rattle.flat_code.specs.Memory as flat_memory
use Rattle.flat_code.specs.Memory.{region, pushed}
use Rattle.flat_code.specs.Program.{Name, Routine, UnitCode, Choice}
use Rattle.flat_code.specs.Values.{Frame}
use Rattle.flat_code.specs.Calls.{activation_bytes, frame_of, opened, closed}
use Rattle.flat_code.proofs.Shut.{region_in, region_below, region_above, pushed_below}
use Rattle.flat_code.proofs.Stack.{first-argument, opened-keeps, closed-keeps}
use Rattle.cpu_8086.specs.declared.registers.Registers.{Registers}
use Rattle.cpu_8086.specs.Memory.{address, next_offset}
use Rattle.resident_machine.specs.Cells.{Cell, Known, Cells, is_free}
use Rattle.resident_machine.specs.machine_lines.Straight.{MayWrite}
use Rattle.statement_simulation.specs.expressions.Active.{Active, IsKept}
use Rattle.effect_simulation.specs.effects.Pushed.{HoldsWords}
use Rattle.call_simulation.specs.frames.Callee.{saved_at}

-- flat code and the machine have the same byte there
record SameByte (m : flat_memory.Cells) (c : Cells) (place : ℕ) : Type 0 where
  byte : ℕ
  flat_is : m place ≡ flat.Known byte
  known : c place ≡ Known byte
  small : byte < 256

-- a byte of the arguments
pushed_same : (m : flat_memory.Cells) (c : Cells) (segment sp : ℕ) (vs : List ℕ) (place : ℕ) → 2 * length vs ≤ sp → sp < 65536 → 16 * segment + sp ≤ 1048576 → HoldsWords c segment sp vs → 16 * segment + (sp - 2 * length vs) ≤ place → place < 16 * segment + sp → SameByte (pushed m segment sp vs) c place
pushed_same m c segment sp [] place room top inside h low high = absurd (omega (arith, low, high))
pushed_same m c segment sp (v ∷ vs) place room top inside h low high =
    ⊎_elim (λ lt. deeper lt (pushed_same m2 c segment (sp - 2) vs place (omega arith) (omega arith) (omega arith) h.2 (omega arith) lt)) (λ le. here le) (cases_lt place (16 * segment + (sp - 2)))
  where
    m2 : flat_memory.Cells
    m2 = flat_memory.put (flat_memory.put m (16 * segment + (sp - 2)) (flat.Known (low_byte v))) (16 * segment + (sp - 1)) (flat.Known (high_byte v))

    Same : Type 0
    Same = SameByte (pushed m segment sp (v ∷ vs)) c place

    deeper : place < 16 * segment + (sp - 2) → SameByte (pushed m2 segment (sp - 2) vs) c place → Same
    deeper lt s = record { byte = s.byte; flat_is = s.flat_is; known = s.known; small = s.small }

    here : 16 * segment + (sp - 2) ≤ place → Same
    here le = ⊎_elim (λ lt. first lt) (λ more. second more) (cases_lt place (16 * segment + (sp - 1)))
      where
        small : v < 65536
        small = h.1

        first : place < 16 * segment + (sp - 1) → Same
        first lt =
            let e : place ≡ 16 * segment + (sp - 2) = omega arith in
            let there : address segment (sp - 2) ≡ place = omega arith in
            let w = first-argument m segment sp v vs (omega arith) small in
            record {
              byte = v % 256;
              flat_is = ap (pushed m segment sp (v ∷ vs)) e ∙ w.low;
              known = subst (λ x. c x ≡ Known (v % 256)) there h.0.low;
              small = omega arith;
            }

        second : 16 * segment + (sp - 1) ≤ place → Same
        second more =
            let e : place ≡ 16 * segment + (sp - 2) + 1 = omega arith in
            let there : address segment (next_offset (sp - 2)) ≡ place = omega arith in
            let w = first-argument m segment sp v vs (omega arith) small in
            let high_is : v / 256 % 256 ≡ v / 256 = (let z = small in omega arith) in
            record {
              byte = v / 256;
              flat_is = ap (pushed m segment sp (v ∷ vs)) e ∙ w.high ∙ ap (λ n. flat.Known n) high_is;
              known = subst (λ x. c x ≡ Known (v / 256)) there h.0.high;
              small = (let z = small in omega arith);
            }

module _ (flag : ℕ) (choice : Choice) (r : Routine) (f : Frame) (vs : List ℕ) (m : flat_memory.Cells) (g : Registers) (c : Cells) (a : Active flag choice f m g c) (at_sp : g.sp ≡ f.sp) (fits : 2 * length vs ≡ r.arguments) (room : activation_bytes r ≤ f.sp) where
  abbrev ss : ℕ
  ss = choice.stack_segment

  -- a byte of the link and of the return address
  abbrev pub IsLink : ℕ → Type 0
  IsLink place = (16 * ss + saved_at r f ≤ place) × (place < 16 * ss + (f.sp - r.arguments))

  -- what stands in the stack below the caller's SP: an argument, a local, or nothing
  opened_zone : {P : Type 0} (d : Cells) (place : ℕ) → HoldsWords d ss f.sp vs → 16 * ss ≤ place → place < 16 * ss + f.sp → (SameByte (opened choice r f vs m) d place → (IsLink place → ⊥) → P) → (opened choice r f vs m place ≡ flat.Unset → (IsLink place → ⊥) → P) → (opened choice r f vs m place ≡ flat.Outside → P) → P
  opened_zone d place words low high argument local none =
      let top = a.top in
      let inside = a.inside in
      let segment = a.ss in
      let sp = at_sp in
      ⊎_elim (λ lt. ⊎_elim (λ deep. none (below deep)) (λ le. ⊎_elim (λ mid. local (locals le mid) (not_link_below mid)) (λ up. none (link up lt)) (cases_lt place (16 * ss + saved_at r f))) (cases_lt place (16 * ss + (f.sp - activation_bytes r))))
      (λ le. argument (args le) (not_link_above le)) (cases_lt place (16 * ss + (f.sp - r.arguments)))
    where
      k : flat_memory.Cells
      k = pushed m ss f.sp vs

      outside : m place ≡ flat.Outside
      outside = let segment = a.ss in let sp = at_sp in a.below place (omega (arith, low)) (omega (arith, high))

      below : place < 16 * ss + (f.sp - activation_bytes r) → opened choice r f vs m place ≡ flat.Outside
      below lt = let z = fits in let y = room in region_below k ss (f.sp - activation_bytes r) r.locals flat.Unset place lt ∙ pushed_below m ss f.sp vs place (omega arith) (omega arith) ∙ outside

      locals : 16 * ss + (f.sp - activation_bytes r) ≤ place → place < 16 * ss + saved_at r f → opened choice r f vs m place ≡ flat.Unset
      locals le lt = let y = room in region_in k ss (f.sp - activation_bytes r) r.locals flat.Unset place le (omega arith)

      link : 16 * ss + saved_at r f ≤ place → place < 16 * ss + (f.sp - r.arguments) → opened choice r f vs m place ≡ flat.Outside
      link le lt = let z = fits in let y = room in region_above k ss (f.sp - activation_bytes r) r.locals flat.Unset place (omega arith) ∙ pushed_below m ss f.sp vs place (omega arith) (omega arith) ∙ outside

      not_link_below : place < 16 * ss + saved_at r f → IsLink place → ⊥
      not_link_below lt l = let z = l.0 in absurd (omega arith)

      not_link_above : 16 * ss + (f.sp - r.arguments) ≤ place → IsLink place → ⊥
      not_link_above le l = let z = l.1 in absurd (omega arith)

      args : 16 * ss + (f.sp - r.arguments) ≤ place → SameByte (opened choice r f vs m) d place
      args le =
          let z = fits in
          let y = room in
          let top = a.top in
          let inside = a.inside in
          let segment = a.ss in
          let sp = at_sp in
          let s = pushed_same m d ss f.sp vs place (omega arith) (omega arith) (omega arith) words (omega arith) high in
          record { byte = s.byte; flat_is = region_above k ss (f.sp - activation_bytes r) r.locals flat.Unset place (omega arith) ∙ s.flat_is; known = s.known; small = s.small }

  abbrev inner : flat_memory.Cells
  inner = opened choice r f vs m

  pub opened_link : (place : ℕ) → IsLink place → inner place ≡ flat.Outside
  opened_link place l =
      let low = l.0 in
      let high = l.1 in
      let z = fits in
      let y = room in
      let segment = a.ss in
      let sp = at_sp in
      region_above (pushed m ss f.sp vs) ss (f.sp - activation_bytes r) r.locals flat.Unset place (omega arith) ∙ pushed_below m ss f.sp vs place (omega arith) (omega arith) ∙ a.below place (omega arith) (omega arith)

  -- a place outside the stack below the caller's SP is as it was
  pub opened_kept : (place : ℕ) → IsKept g place → inner place ≡ m place
  opened_kept place kept =
      let sp = at_sp in
      let segment = a.ss in
      ⊎_elim (λ lt. opened-keeps choice r f vs m place (let z = fits in omega arith) room (omega arith) (inl lt))
      (λ le. opened-keeps choice r f vs m place (let z = fits in omega arith) room (omega arith) (inr (let z = kept (omega arith) in omega arith))) (cases_lt place (16 * ss))

  -- such a place, or one in the stack below
  pub by_zone : {P : Type 0} (place : ℕ) → (IsKept g place → P) → (16 * ss ≤ place → place < 16 * ss + f.sp → P) → P
  by_zone place kept below =
      let sp = at_sp in
      let segment = a.ss in
      ⊎_elim (λ lt. kept (λ low. absurd (omega (arith, lt, low)))) (λ le. ⊎_elim (λ lt. below le lt) (λ more. kept (λ low. omega (arith, more))) (cases_lt place (16 * ss + f.sp))) (cases_lt place (16 * ss))

  -- the machine stands for the activation that begins
  pub active_opened : (name : Name) (unit : UnitCode) (h : Registers) (d : Cells) → h.ss ≡ g.ss → h.ds ≡ g.ds → h.bp ≡ saved_at r f → h.sp ≡ f.sp - activation_bytes r → HoldsWords d ss f.sp vs → ((place : ℕ) → IsKept g place → d place ≡ c place) → ((place : ℕ) → (IsLink place → ⊥) → MayWrite c flag place → MayWrite d flag place) → Active flag choice (frame_of name unit r f) inner h d
  active_opened name unit h d hss hds hbp hsp words bytes may =
      let top = a.top in
      let inside = a.inside in
      let segment = a.ss in
      let sp = at_sp in
      record {
        ss = hss ∙ a.ss;
        ds = hds ∙ a.ds;
        bp = hbp;
        top = omega arith;
        inside = omega arith;
        known = λ place byte e. by_zone place
            (λ kept. bytes place kept ∙ a.known place byte (sym (opened_kept place kept) ∙ e))
            (λ low high. opened_zone d place words low high
            (λ s apart. s.known ∙ ap machine_byte (sym s.flat_is ∙ e))
            (λ unset apart. let z = sym unset ∙ e in absurd (cc))
            (λ out. let z = sym out ∙ e in absurd (cc)));
        small = λ place byte e. by_zone place
            (λ kept. a.small place byte (sym (opened_kept place kept) ∙ e))
            (λ low high. opened_zone d place words low high
            (λ s apart. let same = ap flat_byte (sym s.flat_is ∙ e) in let z = s.small in omega arith)
            (λ unset apart. let z = sym unset ∙ e in absurd (cc))
            (λ out. let z = sym out ∙ e in absurd (cc)));
        reached = λ place in_reach. by_zone place
            (λ kept. may place (kept_no_link place kept) (a.reached place (λ out. in_reach (opened_kept place kept ∙ out))))
            (λ low high. opened_zone d place words low high
            (λ s apart. may place apart (below_may place low high))
            (λ unset apart. may place apart (below_may place low high))
            (λ out. absurd (in_reach out)));
        below = λ place low high. opened_zone d place words (omega arith) (omega arith)
            (λ s apart. absurd (no_argument place s apart (omega arith) (omega arith)))
            (λ unset apart. absurd (no_local place unset (omega arith) (omega arith)))
            (λ out. out);
        spare = λ offset less. may (16 * h.ss + offset) (λ l. let z = l.0 in absurd (omega arith)) (subst (λ z. MayWrite c flag (16 * z + offset)) (sym hss) (a.spare offset (omega arith)));
      }
    where
      flat_byte : flat_cell.Cell → ℕ
      flat_byte (flat.Known b) = b
      flat_byte flat.Unset = 0
      flat_byte flat.Outside = 0

      machine_byte : flat_cell.Cell → Cell
      machine_byte x = Known (flat_byte x)

      below_may : (place : ℕ) → 16 * ss ≤ place → place < 16 * ss + f.sp → MayWrite c flag place
      below_may place low high =
          let segment = a.ss in
          let sp = at_sp in
          subst (λ z. MayWrite c flag z) {x = 16 * g.ss + (place - 16 * ss)} {y = place} (omega (arith, low)) (a.spare (place - 16 * ss) (omega (arith, low, high)))

      kept_no_link : (place : ℕ) → IsKept g place → IsLink place → ⊥
      kept_no_link place kept l =
          let segment = a.ss in
          let sp = at_sp in
          let low = l.0 in
          let high = l.1 in
          let z = kept (omega arith) in
          omega arith

      -- below the locals nothing can be reached
      outside_below : (place : ℕ) → 16 * ss ≤ place → place < 16 * ss + (f.sp - activation_bytes r) → inner place ≡ flat.Outside
      outside_below place low high =
          let z = fits in
          let y = room in
          let segment = a.ss in
          let sp = at_sp in
          region_below (pushed m ss f.sp vs) ss (f.sp - activation_bytes r) r.locals flat.Unset place high ∙ pushed_below m ss f.sp vs place (omega arith) (omega arith) ∙ a.below place (omega arith) (omega arith)

      no_argument : (place : ℕ) → SameByte inner d place → (IsLink place → ⊥) → 16 * ss ≤ place → place < 16 * ss + (f.sp - activation_bytes r) → ⊥
      no_argument place s apart low high = let z = sym s.flat_is ∙ outside_below place low high in absurd (cc)

      no_local : (place : ℕ) → inner place ≡ flat.Unset → 16 * ss ≤ place → place < 16 * ss + (f.sp - activation_bytes r) → ⊥
      no_local place unset low high = let z = sym unset ∙ outside_below place low high in absurd (cc)

-- ## The end of an activation

module _ (flag : ℕ) (choice : Choice) (r : Routine) (f : Frame) (name : Name) (unit : UnitCode) (u : flat_memory.Cells) (g : Registers) (c : Cells) (a : Active flag choice (frame_of name unit r f) u g c) (at_sp : g.sp ≡ f.sp - activation_bytes r) (room : activation_bytes r ≤ f.sp) where
  abbrev base : ℕ
  base = choice.stack_segment

  -- a place outside the stack below the caller's SP
  abbrev pub IsOuter : ℕ → Type 0
  IsOuter place = 16 * base ≤ place → 16 * base + f.sp ≤ place

  pub closed_outer : (place : ℕ) → IsOuter place → closed choice r f u place ≡ u place
  closed_outer place outer =
      ⊎_elim (λ lt. closed-keeps choice r f u place room (inl lt)) (λ le. closed-keeps choice r f u place room (inr (outer le))) (cases_lt place (16 * base))

  closed_below : (place : ℕ) → 16 * base ≤ place → place < 16 * base + f.sp → closed choice r f u place ≡ flat.Outside
  closed_below place low high =
      let segment = a.ss in
      let sp = at_sp in
      let y = room in
      ⊎_elim (λ lt. region_below u base (f.sp - activation_bytes r) (activation_bytes r) flat.Outside place lt ∙ a.below place (omega (arith, low)) (omega (arith, lt)))
      (λ le. region_in u base (f.sp - activation_bytes r) (activation_bytes r) flat.Outside place le (omega (arith, high))) (cases_lt place (16 * base + (f.sp - activation_bytes r)))

  by_outer : {P : Type 0} (place : ℕ) → (IsOuter place → P) → (closed choice r f u place ≡ flat.Outside → P) → P
  by_outer place outer none =
      ⊎_elim (λ lt. outer (λ low. absurd (omega (arith, lt, low)))) (λ le. ⊎_elim (λ lt. none (closed_below place le lt)) (λ more. outer (λ low. more)) (cases_lt place (16 * base + f.sp))) (cases_lt place (16 * base))

  -- the machine stands for the caller again
  pub active_closed : (h : Registers) (e : Cells) → h.ss ≡ g.ss → h.ds ≡ g.ds → h.bp ≡ f.bp → h.sp ≡ f.sp → f.sp < 65536 → 16 * base + f.sp ≤ 1048576 → ((place : ℕ) → IsOuter place → e place ≡ c place) → ((offset : ℕ) → offset < f.sp → MayWrite e flag (16 * base + offset)) → Active flag choice f (closed choice r f u) h e
  active_closed h e hss hds hbp hsp top inside bytes spare =
      let segment = a.ss in
      record {
        ss = hss ∙ a.ss;
        ds = hds ∙ a.ds;
        bp = hbp;
        top = omega arith;
        inside = omega arith;
        known = λ place byte z. by_outer place
            (λ outer. bytes place outer ∙ a.known place byte (sym (closed_outer place outer) ∙ z))
            (λ out. let y = sym out ∙ z in absurd (cc));
        small = λ place byte z. by_outer place
            (λ outer. a.small place byte (sym (closed_outer place outer) ∙ z))
            (λ out. let y = sym out ∙ z in absurd (cc));
        reached = λ place in_reach. by_outer place
            (λ outer. same_may (bytes place outer) (a.reached place (λ out. in_reach (closed_outer place outer ∙ out))))
            (λ out. absurd (in_reach out));
        below = λ place low high. closed_below place (omega arith) (omega arith);
        spare = λ offset less. subst (λ z. MayWrite e flag (16 * z + offset)) (sym (hss ∙ a.ss)) (spare offset (omega arith));
      }
    where
      same_may : {place : ℕ} → e place ≡ c place → MayWrite c flag place → MayWrite e flag place
      same_may same may = record { free = subst (λ x. IsTrue (is_free x)) (sym same) may.free; apart = may.apart }

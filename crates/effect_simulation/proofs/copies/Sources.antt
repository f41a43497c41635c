-- SI comes to lead to the source of a copy, and the segment of its place is in DS or SS.
use Rattle.std.proofs.Common.{◌≡◌, ℕ, suc, ◌+◌, ◌%◌, ◌<◌, ◌≤◌, Bool, List, [], ◌∷◌, length, Ok, Err, arith, refl, sym, ap, subst, ◌∙◌}
use Rattle.std.specs.Prelude.{ℤ}
use Rattle.common_values.specs.integers.Words.{w16, word_of}
use Rattle.x86_table.specs.declared.instr.Instr.TheVariants as instr
use Rattle.x86_table.specs.declared.operand.Base.TheVariants as base
use Rattle.x86_table.specs.declared.operand.Place.{Place as OperandPlace}
use Rattle.x86_table.specs.declared.operand.WordReg.TheVariants as word
use Rattle.x86_table.specs.Standing.{IsSpelledAt, Stands}
use Rattle.flat_code.specs.declared.memory.Place.{Place}
use Rattle.flat_code.specs.declared.memory.Trap.TheVariants.{ByZero, Bad}
use Rattle.flat_code.specs.declared.tree.Address.{Address}
use Rattle.flat_code.specs.declared.tree.Address.TheVariants.{Through}
use Rattle.flat_code.specs.Memory as flat_memory
use Rattle.flat_code.specs.Memory.{Found, ◌>>=◌, place_after, word_at}
use Rattle.flat_code.specs.Program.{Choice}
use Rattle.flat_code.specs.Values.{Frame, place_of, stack_place}
use Rattle.cpu_8086.specs.declared.registers.Registers.{Registers}
use Rattle.cpu_8086.specs.Access.{Done, read_word, at_offset, word_then, put_word}
use Rattle.cpu_8086.specs.Arithmetic.{sum_of}
use Rattle.cpu_8086.specs.Effect.{act}
use Rattle.cpu_8086.specs.Operand.{offset_of}
use Rattle.resident_machine.specs.Effect.{with_memory}
use Rattle.resident_machine.specs.Program.{Segment, Program}
use Rattle.resident_machine.specs.State.{ResidentState}
use Rattle.resident_machine.specs.machine_lines.Steps.{Leads}
use Rattle.resident_machine.specs.machine_lines.Straight.{ones, registers_past, Placed, IsAt, Carried}
use Rattle.resident_machine.proofs.machine_lines.Steps.{leads_on}
use Rattle.resident_machine.proofs.machine_lines.Straight.{line}
use Rattle.code_templates.specs.code_lines.Addresses.{Context}
use Rattle.code_templates.specs.code_lines.Lines.{add_to}
use Rattle.code_templates.specs.code_lines.Operands.{memory_at, frame_memory, hops, displaced, outer_place, operand_place}
use Rattle.statement_simulation.specs.expressions.Active.{Suits, Active}
use Rattle.statement_simulation.proofs.expressions.Loads.{SameBases, LeadsTo, Loaded, LoadsTo, near_segment, fetch_pointer, one_tree}
use Rattle.statement_simulation.proofs.expressions.Operands.{displaced_offset, word_of_small}
use Rattle.statement_simulation.proofs.expressions.States.{ReadsWord, word_found, word_no_division}
use Rattle.effect_simulation.proofs.copies.Links.{Beside, beside_on, HopsTo}

-- at most n events make SI lead to the place; ES:DI and what can be reached are as before
pub record Sourced (p : Program) (framed : Bool) (cs : Segment) (n ip : ℕ) (r : ResidentState) (q : Place) : Type 0 where
  pub count : ℕ
  pub few : count ≤ n
  pub registers : Registers
  pub leads : Leads p framed count r (with_memory r registers r.cells)
  pub here : IsAt cs ip (with_memory r registers r.cells)
  pub beside : Beside r.registers registers
  pub si : registers.si ≡ q.offset
  pub small : q.offset < 65536

abbrev pub SourcesTo : Program → Bool → Segment → ℕ → ℕ → ResidentState → Found Place → Type 0
SourcesTo p framed cs n ip r (Ok q) = Sourced p framed cs n ip r q
SourcesTo p framed cs n ip r (Err ByZero) = ⊥
SourcesTo p framed cs n ip r (Err (Bad _)) = Unit {0}

same_bases : (g : Registers) (n : ℕ) → SameBases g (at_offset g n)
same_bases g n = record { bx = refl; bp = refl; es = refl; ss = refl; ds = refl }

lea_tree : (g : Registers) (place : OperandPlace) (o : ℕ) → offset_of g place ≡ o → act g (instr.Lea word.Si (memory_at place)) ≡ Done (record g { si = o })
unfolding act
lea_tree g place o e = ap (λ n. Done (record g { si = n })) e

lds_tree : (g : Registers) (d : ℕ) → d < 65536 → act g (instr.Lds word.Si (frame_memory d)) ≡ read_word g.ss ((g.bp + d) % 65536) (λ first. read_word g.ss (((g.bp + d) % 65536 + 2) % 65536) (λ second. Done (record g { ds = second; si = first })))
unfolding act
lds_tree g d h =
    near_segment g d _
    ∙ ap (λ o. read_word g.ss o (λ first. read_word g.ss ((o + 2) % 65536) (λ second. Done (record g { ds = second; si = first })))) (displaced_offset g base.Bp d h)

-- where no event is, nothing was loaded
none_loaded : (p : Program) (framed : Bool) (cs : Segment) (ip : ℕ) (x : Context) (a : Address) (r : ResidentState) (q : Place) (l : Loaded p framed cs 0 ip x a r q) → l.registers ≡ r.registers
none_loaded p framed cs ip x a r q l =
    let few = l.fetched.few in
    let none : l.fetched.count ≡ 0 = omega arith in
    let same : r ≡ with_memory r l.registers r.cells = subst (λ n. Leads p framed n r (with_memory r l.registers r.cells)) none l.fetched.leads in
    sym (ap (λ (t : ResidentState). t.registers) same)

module _ (p : Program) (framed : Bool) (cs : Segment) (code : List ℕ) (at labels : ℕ → ℕ) (pl : Placed p cs code at) (x : Context) (choice : Choice) (f : Frame) (m : flat_memory.Cells) (suits : Suits x choice f) where
  -- SI alone is loaded
  lea_sources : (place : OperandPlace) (j o : ℕ) (r : ResidentState) → IsAt cs (at j) r → Stands (IsSpelledAt code) at labels j (ones (instr.Lea word.Si (memory_at place) ∷ [])) → offset_of (at_offset r.registers (at (j + 1))) place ≡ o → Carried p framed cs 1 (at (j + 1)) r (record (at_offset r.registers (at (j + 1))) { si = o }) r.cells
  lea_sources place j o r here s e =
      one_tree p framed cs code at labels pl j (instr.Lea word.Si (memory_at place)) (Done (record (at_offset r.registers (at (j + 1))) { si = o })) r refl here s (lea_tree (at_offset r.registers (at (j + 1))) place o e) tt

  sourced : (j o : ℕ) (q : Place) (r : ResidentState) → Carried p framed cs 1 (at (j + 1)) r (record (at_offset r.registers (at (j + 1))) { si = o }) r.cells → o ≡ q.offset → q.offset < 65536 → Sourced p framed cs 1 (at (j + 1)) r q
  sourced j o q r c e small = record {
    count = 1;
    few = omega arith;
    registers = record (at_offset r.registers (at (j + 1))) { si = o };
    leads = c.leads;
    here = c.here;
    beside = record { sp = refl; bp = refl; ss = refl; ds = refl; es = refl; di = refl; direction = refl };
    si = e;
    small = small;
  }

  -- a place for which nothing is loaded before
  pub near_sources : (a : Address) (k : ℕ) (r : ResidentState) → IsAt cs (at k) r → Stands (IsSpelledAt code) at labels k (ones (instr.Lea word.Si (memory_at (operand_place x a 0)) ∷ [])) → (found : Found Place) → LoadsTo p framed cs 0 (at (k + 0)) x a r found → SourcesTo p framed cs 1 (at (k + 1)) r found
  near_sources a k r here s (Err ByZero) l = l
  near_sources a k r here s (Err (Bad act)) l = tt
  near_sources a k r here s (Ok q) l =
      let same = none_loaded p framed cs (at (k + 0)) x a r q l in
      let leads : LeadsTo x a q r.registers = subst (λ g. LeadsTo x a q g) same l.operand_is in
      let small = l.small in
      let o : offset_of (at_offset r.registers (at (k + 1))) (operand_place x a 0) ≡ q.offset = leads.offset (at_offset r.registers (at (k + 1))) 0 (same_bases r.registers (at (k + 1))) ∙ (omega arith) in
      sourced k q.offset q r (lea_sources (operand_place x a 0) k q.offset r here s o) refl small

  -- a place behind links
  pub far_sources : (n : ℕ) (d : ℤ) (k : ℕ) (r : ResidentState) → Stands (IsSpelledAt code) at labels (k + suc (length (hops n))) (ones (instr.Lea word.Si (memory_at (outer_place x (suc n) ((word_of w16 d + 0) % 65536))) ∷ [])) → (found : Found ℕ) → HopsTo p framed cs (suc (length (hops n))) (at (k + suc (length (hops n)))) r found → SourcesTo p framed cs (suc (length (hops n)) + 1) (at (k + suc (length (hops n)) + 1)) r (found >>= λ link. Ok (stack_place choice link d))
  far_sources n d k r s (Err ByZero) l = l
  far_sources n d k r s (Err (Bad act)) l = tt
  far_sources n d k r s (Ok link) l =
      let j = k + suc (length (hops n)) in
      let t = with_memory r l.registers r.cells in
      let w = (word_of w16 d + 0) % 65536 in
      let q = stack_place choice link d in
      let bx = l.bx in
      let o : offset_of (at_offset l.registers (at (j + 1))) (displaced base.Bx w) ≡ q.offset = displaced_offset (at_offset l.registers (at (j + 1))) base.Bx w (omega arith) ∙ (omega arith) in
      let one = sourced j q.offset q t (lea_sources (displaced base.Bx w) j q.offset t l.here s o) refl (omega arith) in
      let y = l.few in
      let z = one.few in
      record {
        count = l.count + one.count;
        few = omega arith;
        registers = one.registers;
        leads = leads_on p framed l.count one.count r t (with_memory r one.registers r.cells) l.leads one.leads;
        here = one.here;
        beside = beside_on r.registers l.registers one.registers l.beside one.beside;
        si = one.si;
        small = one.small;
      }

  -- ## Through a pointer: DS is its segment

  add_carries : (j plus : ℕ) (r : ResidentState) → IsAt cs (at j) r → Stands (IsSpelledAt code) at labels j (ones (add_to word.Si plus ∷ [])) → Carried p framed cs 1 (at (j + 1)) r (registers_past at j (add_to word.Si plus ∷ []) r.registers r.cells) r.cells
  unfolding act word_then put_word
  add_carries j plus r here s = line p framed cs code at labels pl j (add_to word.Si plus ∷ []) r refl here s tt

  add_beside : (j plus : ℕ) (r : ResidentState) → Beside r.registers (registers_past at j (add_to word.Si plus ∷ []) r.registers r.cells)
  unfolding act word_then put_word
  add_beside j plus r = record { sp = refl; bp = refl; ss = refl; ds = refl; es = refl; di = refl; direction = refl }

  add_adds : (j plus : ℕ) (r : ResidentState) → (registers_past at j (add_to word.Si plus ∷ []) r.registers r.cells).si ≡ (r.registers.si + plus) % 65536
  unfolding act word_then put_word sum_of
  add_adds j plus r = omega arith

  stack_word : (r : ResidentState) (o v : ℕ) → Active p.installed choice f m r.registers r.cells → 64 ≤ r.registers.sp → o < 65536 → word_at m (record { segment = choice.stack_segment; offset = o }) ≡ Ok v → ReadsWord r.registers r.cells r.registers.ss o v
  stack_word r o v a room small e =
      subst (λ s. ReadsWord r.registers r.cells s o v) (sym a.ss) (word_found p.installed choice f m r.registers r.cells (record { segment = choice.stack_segment; offset = o }) v a room small e)

  -- two events make DS:SI lead to the place
  pub record Pointed (k : ℕ) (r : ResidentState) (q : Place) : Type 0 where
    pub registers : Registers
    pub leads : Leads p framed 2 r (with_memory r registers r.cells)
    pub here : IsAt cs (at (k + 2)) (with_memory r registers r.cells)
    pub sp : registers.sp ≡ r.registers.sp
    pub bp : registers.bp ≡ r.registers.bp
    pub ss : registers.ss ≡ r.registers.ss
    pub es : registers.es ≡ r.registers.es
    pub di : registers.di ≡ r.registers.di
    pub direction : registers.direction ≡ r.registers.direction
    pub ds : registers.ds ≡ q.segment
    pub si : registers.si ≡ q.offset
    pub small : q.offset < 65536

  abbrev pub PointsTo : ℕ → ResidentState → Found Place → Type 0
  PointsTo k r (Ok q) = Pointed k r q
  PointsTo k r (Err ByZero) = ⊥
  PointsTo k r (Err (Bad _)) = Unit {0}

  pointer_sources : (slot : ℤ) (plus k : ℕ) (r : ResidentState) → IsAt cs (at k) r → Active p.installed choice f m r.registers r.cells → 64 ≤ r.registers.sp → Stands (IsSpelledAt code) at labels k (ones (instr.Lds word.Si (frame_memory (word_of w16 slot)) ∷ add_to word.Si plus ∷ [])) → (v w : Found ℕ) → word_at m (stack_place choice f.bp slot) ≡ v → word_at m (place_after (stack_place choice f.bp slot) 2) ≡ w → PointsTo k r ((v >>= λ offset. w >>= λ segment. Ok (record { segment = segment; offset = offset })) >>= λ q. Ok (place_after q plus))
  pointer_sources slot plus k r here a room s (Ok offset) (Ok segment) ev ew =
      let g = r.registers in
      let d = word_of w16 slot in
      let o = (g.bp + d) % 65536 in
      let same : (f.bp + d) % 65536 ≡ o = ap (λ n. (n + d) % 65536) (sym a.bp) in
      let first = subst (λ n. ReadsWord g r.cells g.ss n offset) same (stack_word r ((f.bp + d) % 65536) offset a room (omega arith) ev) in
      let second = subst (λ n. ReadsWord g r.cells g.ss ((n + 2) % 65536) segment) same (stack_word r (((f.bp + d) % 65536 + 2) % 65536) segment a room (omega arith) ew) in
      let h = record (at_offset g (at (k + 1))) { ds = segment; si = offset } in
      let c = fetch_pointer p framed cs code at labels pl k (instr.Lds word.Si (frame_memory d)) g.ss o offset segment (λ first second. record (at_offset g (at (k + 1))) { ds = second; si = first }) r refl here (s.0, tt) (lds_tree (at_offset g (at (k + 1))) d (word_of_small slot)) first second in
      let t = with_memory r h r.cells in
      let b = add_carries (k + 1) plus t c.here s.1 in
      let i = registers_past at (k + 1) (add_to word.Si plus ∷ []) h r.cells in
      let kept = add_beside (k + 1) plus t in
      let two : k + 1 + 1 ≡ k + 2 = omega arith in
      record {
        registers = i;
        leads = leads_on p framed 1 1 r t (with_memory r i r.cells) c.leads b.leads;
        here = subst (λ n. IsAt cs (at n) (with_memory r i r.cells)) two b.here;
        sp = kept.sp;
        bp = kept.bp;
        ss = kept.ss;
        es = kept.es;
        di = kept.di;
        direction = kept.direction;
        ds = kept.ds;
        si = add_adds (k + 1) plus t;
        small = omega arith;
      }
  pointer_sources slot plus k r here a room s (Ok offset) (Err ByZero) ev ew = absurd (word_no_division m (place_after (stack_place choice f.bp slot) 2) ew)
  pointer_sources slot plus k r here a room s (Ok offset) (Err (Bad act)) ev ew = tt
  pointer_sources slot plus k r here a room s (Err ByZero) w ev ew = absurd (word_no_division m (stack_place choice f.bp slot) ev)
  pointer_sources slot plus k r here a room s (Err (Bad act)) w ev ew = tt

  pub through_sources : (slot : ℤ) (plus k : ℕ) (r : ResidentState) → IsAt cs (at k) r → Active p.installed choice f m r.registers r.cells → 64 ≤ r.registers.sp → Stands (IsSpelledAt code) at labels k (ones (instr.Lds word.Si (frame_memory (word_of w16 slot)) ∷ add_to word.Si plus ∷ [])) → PointsTo k r (place_of choice f m (Through slot plus))
  through_sources slot plus k r here a room s =
      pointer_sources slot plus k r here a room s (word_at m (stack_place choice f.bp slot)) (word_at m (place_after (stack_place choice f.bp slot) 2)) refl refl

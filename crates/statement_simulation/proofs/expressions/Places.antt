-- The place that flat code names is where the operand leads, once it is loaded.
use Rattle.std.proofs.Common.{◌≡◌, ℕ, zero, suc, ◌+◌, ◌%◌, ◌<◌, ◌≤◌, Bool, true, List, [], ◌∷◌, length, Option, Some, None, Ok, Err, arith, refl, sym, ap, subst, ◌∙◌}
use Rattle.std.specs.Prelude.{ℤ}
use Rattle.common_values.specs.integers.Words.{w16, word_of}
use Rattle.x86_table.specs.declared.instr.Instr.{Instr}
use Rattle.x86_table.specs.declared.instr.Instr.TheVariants as instr
use Rattle.x86_table.specs.declared.operand.Base.TheVariants as base
use Rattle.x86_table.specs.declared.operand.WordReg.TheVariants as word
use Rattle.x86_table.specs.Standing.{IsSpelledAt, Stands}
use Rattle.flat_code.specs.declared.memory.Place.{Place}
use Rattle.flat_code.specs.declared.memory.Trap.TheVariants.{ByZero, Bad}
use Rattle.flat_code.specs.declared.tree.Address.{Address}
use Rattle.flat_code.specs.declared.tree.Address.TheVariants.{Global, Local, Outer, Through}
use Rattle.flat_code.specs.Memory as flat_memory
use Rattle.flat_code.specs.Memory.{Found, ◌>>=◌, place_after, word_at, far_at}
use Rattle.flat_code.specs.Program.{Name, Choice, named}
use Rattle.flat_code.specs.Values.{Frame, stack_place, linked, if_placed, place_of}
use Rattle.flat_code.specs.Calls.{link_bytes}
use Rattle.cpu_8086.specs.declared.registers.Registers.{Registers}
use Rattle.cpu_8086.specs.Access.{Done, read_word, at_offset}
use Rattle.resident_machine.specs.Effect.{with_memory}
use Rattle.resident_machine.specs.Program.{Segment, Program}
use Rattle.resident_machine.specs.State.{ResidentState}
use Rattle.resident_machine.specs.machine_lines.Straight.{is_plain, ones, tree, Placed, IsAt}
use Rattle.code_templates.specs.code_lines.Addresses.{Context, key_in, name_or_own}
use Rattle.code_templates.specs.code_lines.Operands.{frame_memory, load, hop, hops, links, loads}
use Rattle.statement_simulation.specs.expressions.Active.{Suits, Active}
use Rattle.statement_simulation.proofs.expressions.States.{ReadsWord, word_found, word_small, word_no_division}
use Rattle.statement_simulation.proofs.expressions.Operands.{displaced_offset, direct_offset, word_of_small}
use Rattle.statement_simulation.proofs.expressions.Loads.{LeadsTo, Fetched, LoadsTo, Linked, LinksTo, aside_active, aside_bx, near_segment, stack_segment_is, extra_segment_is, data_segment_is, les_tree, load_bx_tree, hop_tree, fetch_word, fetch_pointer, fetched, none_fetched, fetched_on, fetched_as}

module _ (p : Program) (framed : Bool) (cs : Segment) (code : List ℕ) (at labels : ℕ → ℕ) (pl : Placed p cs code at) (x : Context) (choice : Choice) (f : Frame) (m : flat_memory.Cells) (suits : Suits x choice f) where
  -- ## Links

  -- a link was fetched into BX, and further ones follow
  linked_on : (k n : ℕ) (r : ResidentState) (h : Registers) (found : Found ℕ) → Fetched p framed cs 1 (at (k + 1)) r h → LinksTo p framed cs n (at (k + 1 + n)) (with_memory r h r.cells) found → LinksTo p framed cs (suc n) (at (k + suc n)) r found
  linked_on k n r h (Ok link) a l =
      let both = fetched_on p framed cs code at labels pl 1 n (at (k + 1)) (at (k + 1 + n)) r h l.registers a l.fetched in
      record {
        registers = l.registers;
        fetched = fetched_as p framed cs code at labels pl (1 + n) (suc n) (k + 1 + n) (k + suc n) r l.registers (omega arith) (omega arith) both;
        bx = l.bx;
        small = l.small;
      }
  linked_on k n r h (Err ByZero) a l = l
  linked_on k n r h (Err (Bad act)) a l = tt

  -- a link word was found, its instruction fetches it, and further links follow
  link_then : (k n : ℕ) (i : Instr) (segment offset : ℕ) (r : ResidentState) (v : ℕ) → is_plain i ≡ true → IsAt cs (at k) r → Stands (IsSpelledAt code) at labels k (ones (i ∷ [])) → tree at (k + 1) i r.registers ≡ read_word segment offset (λ w. Done (record (at_offset r.registers (at (k + 1))) { bx = w })) → ReadsWord r.registers r.cells segment offset v → ((one : Linked p framed cs 1 (at (k + 1)) r v) → LinksTo p framed cs (length (hops n)) (at (k + 1 + length (hops n))) (with_memory r one.registers r.cells) (linked choice m n v)) → LinksTo p framed cs (suc (length (hops n))) (at (k + suc (length (hops n)))) r (linked choice m n v)
  link_then k n i segment offset r v plain here s tree w more =
      let g = r.registers in
      let c = fetch_word p framed cs code at labels pl k i segment offset v (λ v. record (at_offset g (at (k + 1))) { bx = v }) r plain here s tree w in
      let one = fetched p framed cs code at labels pl 1 (at (k + 1)) r (record (at_offset g (at (k + 1))) { bx = v }) c (aside_bx g (at (k + 1)) v g.es) in
      linked_on k (length (hops n)) r (record (at_offset g (at (k + 1))) { bx = v }) (linked choice m n v) one (more (record { registers = record (at_offset g (at (k + 1))) { bx = v }; fetched = one; bx = refl; small = word_small g r.cells segment offset v w }))

  stack_word : (r : ResidentState) (o v : ℕ) → Active p.installed choice f m r.registers r.cells → 64 ≤ r.registers.sp → o < 65536 → word_at m (record { segment = choice.stack_segment; offset = o }) ≡ Ok v → ReadsWord r.registers r.cells r.registers.ss o v
  stack_word r o v a room small e =
      subst (λ s. ReadsWord r.registers r.cells s o v) (sym a.ss) (word_found p.installed choice f m r.registers r.cells (record { segment = choice.stack_segment; offset = o }) v a room small e)

  -- from one link word, by what it holds
  hop_then : (k n up : ℕ) (r : ResidentState) → IsAt cs (at k) r → Active p.installed choice f m r.registers r.cells → 64 ≤ r.registers.sp → r.registers.bx ≡ up → up < 65536 → Stands (IsSpelledAt code) at labels k (ones (hop ∷ [])) → (w : Found ℕ) → word_at m (record { segment = choice.stack_segment; offset = up }) ≡ w → ((v : ℕ) (one : Linked p framed cs 1 (at (k + 1)) r v) → LinksTo p framed cs (length (hops n)) (at (k + 1 + length (hops n))) (with_memory r one.registers r.cells) (linked choice m n v)) → LinksTo p framed cs (suc (length (hops n))) (at (k + suc (length (hops n)))) r (w >>= λ up. linked choice m n up)
  hop_then k n up r here a room bx small s (Ok v) e more =
      let g = r.registers in
      let w = subst (λ o. ReadsWord g r.cells g.ss o v) (sym bx) (stack_word r up v a room small e) in
      link_then k n hop g.ss g.bx r v refl here s (hop_tree (at_offset g (at (k + 1))) (let z = small in let y = bx in omega arith)) w (more v)
  hop_then k n up r here a room bx small s (Err ByZero) e more = absurd (word_no_division m (record { segment = choice.stack_segment; offset = up }) e)
  hop_then k n up r here a room bx small s (Err (Bad act)) e more = tt

  hops_run : (n k up : ℕ) (r : ResidentState) → IsAt cs (at k) r → Active p.installed choice f m r.registers r.cells → 64 ≤ r.registers.sp → r.registers.bx ≡ up → up < 65536 → Stands (IsSpelledAt code) at labels k (ones (hops n)) → LinksTo p framed cs (length (hops n)) (at (k + length (hops n))) r (linked choice m n up)
  hops_run zero k up r here a room bx small s = record { registers = r.registers; fetched = none_fetched p framed cs code at labels pl k r here; bx = bx; small = small }
  hops_run (suc n) k up r here a room bx small s =
      hop_then k n up r here a room bx small (s.0, tt) (word_at m (record { segment = choice.stack_segment; offset = up })) refl
      (λ v one. hops_run n (k + 1) v (with_memory r one.registers r.cells) one.fetched.here (aside_active p.installed choice f m r.registers one.registers r.cells a one.fetched.aside) (let e = one.fetched.aside.sp in let z = room in omega arith) one.bx one.small s.1)

  -- from the routine's own link word, by what it holds
  first_link : (n k : ℕ) (r : ResidentState) → IsAt cs (at k) r → Active p.installed choice f m r.registers r.cells → 64 ≤ r.registers.sp → Stands (IsSpelledAt code) at labels k (ones (links x (suc n))) → (w : Found ℕ) → word_at m (record { segment = choice.stack_segment; offset = f.link }) ≡ w → LinksTo p framed cs (suc (length (hops n))) (at (k + suc (length (hops n)))) r (w >>= λ up. linked choice m n up)
  first_link n k r here a room s (Ok v) e =
      let g = r.registers in
      let d = link_bytes x.far in
      let o : f.link ≡ (g.bp + d) % 65536 = (let b = a.bp in let l = suits.link in let z = suits.link_small in omega arith) in
      let w = subst (λ o. ReadsWord g r.cells g.ss o v) o (stack_word r f.link v a room suits.link_small e) in
      link_then k n (load word.Bx (frame_memory d)) g.ss ((g.bp + d) % 65536) r v refl here (s.0, tt) (load_bx_tree (at_offset g (at (k + 1))) d (let l = suits.link in let z = suits.link_small in omega arith)) w
      (λ one. hops_run n (k + 1) v (with_memory r one.registers r.cells) one.fetched.here (aside_active p.installed choice f m r.registers one.registers r.cells a one.fetched.aside) (let e = one.fetched.aside.sp in let z = room in omega arith) one.bx one.small s.1)
  first_link n k r here a room s (Err ByZero) e = absurd (word_no_division m (record { segment = choice.stack_segment; offset = f.link }) e)
  first_link n k r here a room s (Err (Bad act)) e = tt

  -- ## Places

  global_is : (unit number plus offset : ℕ) (g : Registers) → g.ds ≡ choice.data_segment → x.addresses.datum (key_in x unit number) ≡ offset → LeadsTo x (Global unit number plus) (place_after (record { segment = choice.data_segment; offset = offset }) plus) g
  global_is unit number plus offset g ds e = record {
    segment = λ h more next s. data_segment_is h _ next ∙ ap next (s.ds ∙ ds);
    offset = λ h more s. direct_offset h _ ∙ (let z = e in omega arith);
    segment_in = ds;
  }

  local_is : (at : ℤ) (g : Registers) → g.ss ≡ choice.stack_segment → g.bp ≡ f.bp → LeadsTo x (Local at) (stack_place choice f.bp at) g
  local_is at g ss bp = record {
    segment = λ h more next s. near_segment h _ next ∙ ap next (s.ss ∙ ss);
    offset = λ h more s. displaced_offset h base.Bp _ (omega arith) ∙ (let a = s.bp in let b = bp in omega arith);
    segment_in = ss;
  }

  own_is : (at : ℤ) (g : Registers) → g.ss ≡ choice.stack_segment → g.bp ≡ f.bp → LeadsTo x (Outer 0 at) (stack_place choice f.link at) g
  own_is at g ss bp = record {
    segment = λ h more next s. near_segment h _ next ∙ ap next (s.ss ∙ ss);
    offset = λ h more s. displaced_offset h base.Bp _ (omega arith) ∙ (let a = s.bp in let b = bp in let l = suits.link in omega arith);
    segment_in = ss;
  }

  outer_is : (n link : ℕ) (at : ℤ) (g : Registers) → g.ss ≡ choice.stack_segment → g.bx ≡ link → LeadsTo x (Outer (suc n) at) (stack_place choice link at) g
  outer_is n link at g ss bx = record {
    segment = λ h more next s. stack_segment_is h _ next ∙ ap next (s.ss ∙ ss);
    offset = λ h more s. displaced_offset h base.Bx _ (omega arith) ∙ (let a = s.bx in let b = bx in omega arith);
    segment_in = ss;
  }

  through_is : (slot : ℤ) (plus : ℕ) (q : Place) (g : Registers) → g.es ≡ q.segment → g.bx ≡ q.offset → LeadsTo x (Through slot plus) (place_after q plus) g
  through_is slot plus q g es bx = record {
    segment = λ h more next s. extra_segment_is h _ next ∙ ap next (s.es ∙ es);
    offset = λ h more s. displaced_offset h base.Bx _ (omega arith) ∙ (let a = s.bx in let b = bx in omega arith);
    segment_in = es;
  }

  datum_run : (unit number plus k : ℕ) (r : ResidentState) (name : Name) → named f.unit f.names unit ≡ Some name → IsAt cs (at k) r → Active p.installed choice f m r.registers r.cells → (o : Option ℕ) → choice.datum (record { unit = name; number = number }) ≡ o → LoadsTo p framed cs 0 (at (k + 0)) x (Global unit number plus) r ((if_placed o >>= λ offset. Ok (record { segment = choice.data_segment; offset = offset })) >>= λ q. Ok (place_after q plus))
  datum_run unit number plus k r name e here a None d = tt
  datum_run unit number plus k r name e here a (Some offset) d =
      let named_here : named x.own x.unit.names unit ≡ Some name = sym (ap (λ u. named u f.names unit) suits.unit ∙ ap (λ names. named x.own names unit) suits.names) ∙ e in
      let key : key_in x unit number ≡ record { unit = name; number = number } = ap (λ o. record { unit = name_or_own x.own o; number = number }) named_here in
      record {
        registers = r.registers;
        fetched = none_fetched p framed cs code at labels pl k r here;
        operand_is = global_is unit number plus offset r.registers a.ds (ap x.addresses.datum key ∙ suits.datum (record { unit = name; number = number }) offset d);
        small = omega arith;
        segment_small = suits.data_segment;
      }

  global_run : (unit number plus k : ℕ) (r : ResidentState) → IsAt cs (at k) r → Active p.installed choice f m r.registers r.cells → (o : Option Name) → named f.unit f.names unit ≡ o → LoadsTo p framed cs 0 (at (k + 0)) x (Global unit number plus) r (((if_placed o >>= λ name. Ok (record { unit = name; number = number })) >>= λ key. if_placed (choice.datum key) >>= λ offset. Ok (record { segment = choice.data_segment; offset = offset })) >>= λ q. Ok (place_after q plus))
  global_run unit number plus k r here a None e = tt
  global_run unit number plus k r here a (Some name) e = datum_run unit number plus k r name e here a (choice.datum (record { unit = name; number = number })) refl

  outer_run : (n k : ℕ) (d : ℤ) (r : ResidentState) → Active p.installed choice f m r.registers r.cells → (l : Found ℕ) → LinksTo p framed cs (suc (length (hops n))) (at (k + suc (length (hops n)))) r l → LoadsTo p framed cs (suc (length (hops n))) (at (k + suc (length (hops n)))) x (Outer (suc n) d) r (l >>= λ link. Ok (stack_place choice link d))
  outer_run n k d r a (Ok link) l = record {
    registers = l.registers;
    fetched = l.fetched;
    operand_is = outer_is n link d l.registers (l.fetched.aside.ss ∙ a.ss) l.bx;
    small = omega arith;
    segment_small = suits.stack_segment;
  }
  outer_run n k d r a (Err ByZero) l = l
  outer_run n k d r a (Err (Bad act)) l = tt

  through_run : (slot : ℤ) (plus k : ℕ) (r : ResidentState) → IsAt cs (at k) r → Active p.installed choice f m r.registers r.cells → 64 ≤ r.registers.sp → Stands (IsSpelledAt code) at labels k (ones (loads x (Through slot plus))) → (v w : Found ℕ) → word_at m (stack_place choice f.bp slot) ≡ v → word_at m (place_after (stack_place choice f.bp slot) 2) ≡ w → LoadsTo p framed cs 1 (at (k + 1)) x (Through slot plus) r ((v >>= λ offset. w >>= λ segment. Ok (record { segment = segment; offset = offset })) >>= λ q. Ok (place_after q plus))
  through_run slot plus k r here a room s (Ok offset) (Ok segment) ev ew =
      let g = r.registers in
      let d = word_of w16 slot in
      let o = (g.bp + d) % 65536 in
      let same : (f.bp + d) % 65536 ≡ o = ap (λ n. (n + d) % 65536) (sym a.bp) in
      let first = subst (λ n. ReadsWord g r.cells g.ss n offset) same (stack_word r ((f.bp + d) % 65536) offset a room (omega arith) ev) in
      let second = subst (λ n. ReadsWord g r.cells g.ss ((n + 2) % 65536) segment) same (stack_word r (((f.bp + d) % 65536 + 2) % 65536) segment a room (omega arith) ew) in
      let h = record (at_offset g (at (k + 1))) { es = segment; bx = offset } in
      let c = fetch_pointer p framed cs code at labels pl k (instr.Les word.Bx (frame_memory d)) g.ss o offset segment (λ first second. record (at_offset g (at (k + 1))) { es = second; bx = first }) r refl here s (les_tree (at_offset g (at (k + 1))) d (word_of_small slot)) first second in
      record {
        registers = h;
        fetched = fetched p framed cs code at labels pl 1 (at (k + 1)) r h c (aside_bx g (at (k + 1)) offset segment);
        operand_is = through_is slot plus (record { segment = segment; offset = offset }) h refl refl;
        small = omega arith;
        segment_small = word_small g r.cells g.ss ((o + 2) % 65536) segment second;
      }
  through_run slot plus k r here a room s (Ok offset) (Err ByZero) ev ew = absurd (word_no_division m (place_after (stack_place choice f.bp slot) 2) ew)
  through_run slot plus k r here a room s (Ok offset) (Err (Bad act)) ev ew = tt
  through_run slot plus k r here a room s (Err ByZero) w ev ew = absurd (word_no_division m (stack_place choice f.bp slot) ev)
  through_run slot plus k r here a room s (Err (Bad act)) w ev ew = tt

  -- what is loaded before an operand makes it lead to the place
  pub loads_run : (address : Address) (k : ℕ) (r : ResidentState) → IsAt cs (at k) r → Active p.installed choice f m r.registers r.cells → 64 ≤ r.registers.sp → Stands (IsSpelledAt code) at labels k (ones (loads x address)) → LoadsTo p framed cs (length (loads x address)) (at (k + length (loads x address))) x address r (place_of choice f m address)
  loads_run (Global unit number plus) k r here a room s = global_run unit number plus k r here a (named f.unit f.names unit) refl
  loads_run (Local d) k r here a room s = record { registers = r.registers; fetched = none_fetched p framed cs code at labels pl k r here; operand_is = local_is d r.registers a.ss a.bp; small = omega arith; segment_small = suits.stack_segment }
  loads_run (Outer zero d) k r here a room s = record { registers = r.registers; fetched = none_fetched p framed cs code at labels pl k r here; operand_is = own_is d r.registers a.ss a.bp; small = omega arith; segment_small = suits.stack_segment }
  loads_run (Outer (suc n) d) k r here a room s = outer_run n k d r a (linked choice m (suc n) f.link) (first_link n k r here a room s (word_at m (record { segment = choice.stack_segment; offset = f.link })) refl)
  loads_run (Through slot plus) k r here a room s = through_run slot plus k r here a room s (word_at m (stack_place choice f.bp slot)) (word_at m (place_after (stack_place choice f.bp slot) 2)) refl refl

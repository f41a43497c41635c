-- A step from a whole state leads to a whole state.
use Rattle.std.proofs.Common.{◌≡◌, ◌≢◌, ◌⊎◌, inl, inr, ℕ, ◌+◌, ◌/◌, ◌%◌, ◌==◌, Bool, true, false, List, [], ◌∷◌, length, Option, Some, None, Ok, Err, refl, sym, ap, ◌∙◌, subst, arith, eq-eqb, eqb-true}
use Rattle.std.specs.Prelude.{IsTrue, if◌then◌else◌, slice_get, option_map}
use Rattle.std.specs.List.{AllByRecursion}
use Rattle.cpu_8086.specs.declared.process.Why.{Why}
use Rattle.cpu_8086.specs.declared.process.Why.TheVariants as why
use Rattle.cpu_8086.specs.declared.registers.Registers.{Registers}
use Rattle.cpu_8086.specs.Access.{Act, Done, Read, Write, Copy, ReadCodeSegment, FarCall, FarReturn, FarJump, PushCodeSegment, Interrupt, DivideFault, raised, lowered, at_offset}
use Rattle.resident_machine.specs.Program.{Segment, Image, Overlay, OverlayCode, Program, Target, Into, Through, Nowhere, image_target, entry_target, target_by, routine_at, stub_owner, far_target}
use Rattle.resident_machine.specs.Astray.{ReturnsElsewhere, Traps, and_then}
use Rattle.resident_machine.specs.Cells.{Cell, Known, Unknown, Kept, Paired, Cells, with_cell, with_word, free_then, paired_then, with_bytes}
use Rattle.resident_machine.specs.Dos.{plainly, stopped, answered, bad_handle, said_bytes, to_output, to_errors, write_call, read_bytes, given, read_call, exit_call, dos_call}
use Rattle.resident_machine.specs.Effect.{Outcome, with_memory, blurred, called, refused, refused_to, entered, called_to, far_call, taken_pair, returned, returned_into, far_return, jumped_to, half_pushed, cleared, serviced, on_cells}
use Rattle.resident_machine.specs.State.{Record, ResidentState, Service, NoService, AtCall, AtReturn, AtClear}
use Rattle.resident_machine.specs.Whole.{offsets_of, half_offsets, ArePaired, IsNamed, IsImage, IsOutside, IsReturn, IsWhole}
use Rattle.resident_machine.proofs.CallLaws.{CallsFrom}
use Rattle.resident_machine.proofs.CellLaws.{known_ok, free_ok, moved_ok, and_then_ok, unless_ok, stack_ok, paired_ok, ok_same, with_lost-known}
use Rattle.resident_machine.proofs.FirmLaws.{Firm, firm_written, firm_lost, firm_pushed, firm_taken, firm_bytes}
use Rattle.resident_machine.proofs.HoldLaws.{with_word-pushed}
use Rattle.resident_machine.proofs.TreeLaws.{lowered-raised}

-- What a step that began in r keeps: all that is whole, and what is outside as long as the installed flag stays 0.
pub record Comes (p : Program) (kept : ℕ → Bool) (r t : ResidentState) : Type 0 where
  pub named : IsNamed p t.cs
  pub returns : AllByRecursion (IsReturn p) t.records
  pub stays : (place : ℕ) → IsTrue (kept place) → t.cells place ≡ Kept
  pub paired : ArePaired t.registers.ss t.cells (half_offsets t.half t.registers.sp (offsets_of t.records))
  pub outside : IsOutside r → t.cells p.installed ≡ Known 0 → IsOutside t

pub comes : (p : Program) (kept : ℕ → Bool) (r t : ResidentState) (service : Service) (w : ResidentState × Service) → (let o : Outcome = Ok (t, service) in o ≡ Ok w) → Comes p kept r t → Comes p kept r w.0
comes p kept r t service w e h = subst (λ (z : ResidentState × Service). Comes p kept r z.0) (ok_same (t, service) w e) h

comes_blurred : (p : Program) (kept : ℕ → Bool) (r t : ResidentState) → Comes p kept r t → Comes p kept r (blurred t)
comes_blurred p kept r t h =
    let firm = firm_lost kept t.registers.ss t.cells (half_offsets t.half t.registers.sp (offsets_of t.records)) t.registers.ss t.registers.sp (record { stays = h.stays; paired = h.paired }) in
    record {
      named = h.named;
      returns = h.returns;
      stays = firm.stays;
      paired = firm.paired;
      outside = λ out zero. (let o = h.outside out (with_lost-known t.registers.ss t.registers.sp t.cells p.installed 0 zero) in record { cs = o.cs; records = o.records });
    }

half_of : (ss sp : ℕ) (c : Cells) (os : List ℕ) (half : Bool) → half ≡ false → ArePaired ss c os → ArePaired ss c (half_offsets half sp os)
half_of ss sp c os half e h = subst (λ b. ArePaired ss c (half_offsets b sp os)) (sym e) h

-- ## Where far pointers lead there is code

-- code is named by where a target leads
pub record LeadsToCode (p : Program) (target : Target) : Type 0 where
  pub into : (segment offset : ℕ) → target ≡ Into segment offset → IsNamed p (Image segment)
  pub through : (overlay offset : ℕ) → target ≡ Through overlay offset → IsNamed p (Overlay overlay)

image_leads : (p : Program) (segment offset : ℕ) (o : Option (List ℕ)) → p.image segment ≡ o → LeadsToCode p (image_target o segment offset)
image_leads p segment offset None e = record { into = λ s f is. absurd (cc); through = λ v f is. absurd (cc) }
image_leads p segment offset (Some code) e = record {
  into = λ s f is. (code, (let same : segment ≡ s = segment_same segment offset s f is in ap p.image (sym same) ∙ e));
  through = λ v f is. absurd (cc);
}
  where
    segment_same : (a b c d : ℕ) → (let x : Target = Into a b in x ≡ Into c d) → a ≡ c
    segment_same a b c d e = cc

entry_leads : (p : Program) (v : ℕ) (o : Option ℕ) → IsNamed p (Overlay v) → LeadsToCode p (entry_target v o)
entry_leads p v None named = record { into = λ s f is. absurd (cc); through = λ u f is. absurd (cc) }
entry_leads p v (Some offset) named = record {
  into = λ s f is. absurd (cc);
  through = λ u f is. subst (λ z. IsNamed p (Overlay z)) (overlay_same v offset u f is) named;
}
  where
    overlay_same : (a b c d : ℕ) → (let x : Target = Through a b in x ≡ Through c d) → a ≡ c
    overlay_same a b c d e = cc

overlay_leads : (p : Program) (v offset : ℕ) (o : Option OverlayCode) → slice_get p.overlays v ≡ o → LeadsToCode p (entry_target v (routine_at o offset))
overlay_leads p v offset None e = record { into = λ s f is. absurd (cc); through = λ u f is. absurd (cc) }
overlay_leads p v offset (Some code) e = entry_leads p v (routine_at (Some code) offset) (code.code, ap (option_map (λ (o : OverlayCode). o.code)) e)

target_leads : (p : Program) (segment offset : ℕ) (o : Option ℕ) → LeadsToCode p (target_by p segment offset o)
target_leads p segment offset None = image_leads p segment offset (p.image segment) refl
target_leads p segment offset (Some v) = overlay_leads p v offset (slice_get p.overlays v) refl

far_leads : (p : Program) (segment offset : ℕ) → LeadsToCode p (far_target p segment offset)
far_leads p segment offset = target_leads p segment offset (stub_owner p segment)

not_zero : (flag : ℕ) → (flag == 0) ≡ false → (let x : Cell = Known flag in x ≡ Known 0) → ⊥
not_zero flag apart same = let e : flag ≡ 0 = cc in let z = eq-eqb flag 0 e in absurd (cc)

-- r stands before the instruction, which is whole and has no half pushed
module _ (p : Program) (kept : ℕ → Bool) (r : ResidentState) (whole : IsWhole p kept r) (half : r.half ≡ false) (ip : ℕ) (fresh : (place : ℕ) → IsReturn p (record { place = place; segment = r.cs; offset = ip })) where
  -- a state with the CS and the records of r
  same_end : (t : ResidentState) → t.cs ≡ r.cs → t.records ≡ r.records → t.half ≡ r.half → Firm kept t.registers.ss t.cells (offsets_of r.records) → Comes p kept r t
  same_end t cs records same f = record {
    named = subst (IsNamed p) (sym cs) whole.named;
    returns = subst (AllByRecursion (IsReturn p)) (sym records) whole.returns;
    stays = f.stays;
    paired = half_of t.registers.ss t.registers.sp t.cells (offsets_of t.records) t.half (same ∙ half) (subst (λ (xs : List Record). ArePaired t.registers.ss t.cells (offsets_of xs)) (sym records) f.paired);
    outside = λ out zero. record { cs = subst IsImage (sym cs) out.cs; records = subst (AllByRecursion (λ (x : Record). IsImage x.segment)) (sym records) out.records };
  }

  stopped_end : (reason : Why) → Comes p kept r (stopped r reason)
  stopped_end reason = same_end (stopped r reason) refl refl refl (record { stays = whole.stays; paired = subst (λ b. ArePaired r.registers.ss r.cells (half_offsets b r.registers.sp (offsets_of r.records))) half whole.paired })

  -- ## DOS calls

  write_comes : (t : ResidentState) (w : ResidentState × Service) → t.cs ≡ r.cs → t.records ≡ r.records → t.half ≡ r.half → Firm kept t.registers.ss t.cells (offsets_of r.records) → write_call t ≡ Ok w → Comes p kept r w.0
  write_comes t w cs records same f e = by (t.registers.bx == 1) (t.registers.bx == 2) e
    where
      by : (x y : Bool) → (if x then and_then (said_bytes t) (λ bytes. plainly (to_output t bytes)) else (if y then and_then (said_bytes t) (λ bytes. plainly (to_errors t bytes)) else plainly (bad_handle t))) ≡ Ok w → Comes p kept r w.0
      by true y e =
          let parts = and_then_ok (said_bytes t) (λ bytes. plainly (to_output t bytes)) w e in
          comes p kept r (to_output t parts.0) NoService w parts.2 (same_end (to_output t parts.0) cs records same f)
      by false true e =
          let parts = and_then_ok (said_bytes t) (λ bytes. plainly (to_errors t bytes)) w e in
          comes p kept r (to_errors t parts.0) NoService w parts.2 (same_end (to_errors t parts.0) cs records same f)
      by false false e = comes p kept r (bad_handle t) NoService w e (same_end (bad_handle t) cs records same f)

  given_comes : (t : ResidentState) (bytes : List ℕ) (w : ResidentState × Service) → t.cs ≡ r.cs → t.records ≡ r.records → t.half ≡ r.half → Firm kept t.registers.ss t.cells (offsets_of r.records) → given t bytes ≡ Ok w → Comes p kept r w.0
  given_comes t bytes w cs records same f e =
      let parts = and_then_ok (with_bytes t.cells t.registers.ds t.registers.dx bytes) (λ cells. plainly (record (answered t (length bytes) false) { cells = cells; taken = t.taken + length bytes })) w e in
      let u : ResidentState = record (answered t (length bytes) false) { cells = parts.0; taken = t.taken + length bytes } in
      comes p kept r u NoService w parts.2 (same_end u cs records same (firm_bytes kept t.registers.ss (offsets_of r.records) t.registers.ds bytes t.registers.dx t.cells parts.0 parts.1 f))

  read_comes : (t : ResidentState) (w : ResidentState × Service) → t.cs ≡ r.cs → t.records ≡ r.records → t.half ≡ r.half → Firm kept t.registers.ss t.cells (offsets_of r.records) → read_call t ≡ Ok w → Comes p kept r w.0
  read_comes t w cs records same f e = by (t.registers.bx == 0) e
    where
      by : (x : Bool) → (if x then given t (read_bytes t) else plainly (bad_handle t)) ≡ Ok w → Comes p kept r w.0
      by true e = given_comes t (read_bytes t) w cs records same f e
      by false e = comes p kept r (bad_handle t) NoService w e (same_end (bad_handle t) cs records same f)

  dos_comes : (t : ResidentState) (w : ResidentState × Service) → t.cs ≡ r.cs → t.records ≡ r.records → t.half ≡ r.half → Firm kept t.registers.ss t.cells (offsets_of r.records) → dos_call r t ≡ Ok w → Comes p kept r w.0
  dos_comes t w cs records same f e = by (t.registers.ax / 256 == 64) (t.registers.ax / 256 == 63) (t.registers.ax / 256 == 76) e
    where
      by : (x y z : Bool) → (if x then write_call t else (if y then read_call t else (if z then plainly (exit_call t) else plainly (stopped r (why.Function (t.registers.ax / 256)))))) ≡ Ok w → Comes p kept r w.0
      by true y z e = write_comes t w cs records same f e
      by false true z e = read_comes t w cs records same f e
      by false false true e = comes p kept r (exit_call t) NoService w e (same_end (exit_call t) cs records same f)
      by false false false e = comes p kept r (stopped r (why.Function (t.registers.ax / 256))) NoService w e (stopped_end (why.Function (t.registers.ax / 256)))

  cleared_comes : (cs : Segment) (t : ResidentState) (w : ResidentState × Service) → Comes p kept r t → cleared cs t ≡ Ok w → Comes p kept r w.0
  cleared_comes (Image number) t w h e = comes p kept r (blurred t) AtClear w e (comes_blurred p kept r t h)
  cleared_comes (Overlay number) t w h e = absurd (cc)

  service_comes : (t : ResidentState) (n : ℕ) (w : ResidentState × Service) → t.cs ≡ r.cs → t.records ≡ r.records → t.half ≡ r.half → Firm kept t.registers.ss t.cells (offsets_of r.records) → serviced r t n ≡ Ok w → Comes p kept r w.0
  service_comes t n w cs records same f e = by (n == 33) (n == 96) (n == 63) e
    where
      by : (x y z : Bool) → (if x then dos_call r t else (if y then cleared r.cs t else (if z then Err Traps else plainly (stopped r (why.Interrupt n))))) ≡ Ok w → Comes p kept r w.0
      by true y z e = dos_comes t w cs records same f e
      by false true z e = cleared_comes r.cs t w (same_end t cs records same f) e
      by false false true e = absurd (cc)
      by false false false e = comes p kept r (stopped r (why.Interrupt n)) NoService w e (stopped_end (why.Interrupt n))

  -- ## Far calls, returns and jumps

  new_return : (g : Registers) → g.ip ≡ ip → IsReturn p (record { place = (lowered (lowered g)).sp; segment = r.cs; offset = g.ip })
  new_return g e = subst (λ z. IsReturn p (record { place = (lowered (lowered g)).sp; segment = r.cs; offset = z })) (sym e) (fresh (lowered (lowered g)).sp)

  -- a far call that leads to an overlay only where the installed flag isn't 0
  called_comes : (g : Registers) (c : Cells) (to : Segment) (offset : ℕ) → g.ip ≡ ip → IsNamed p to → (c p.installed ≡ Known 0 → IsImage to) → Firm kept g.ss c (offsets_of (record { place = (lowered (lowered g)).sp; segment = r.cs; offset = g.ip } ∷ r.records)) → Comes p kept r (called r g c to offset)
  called_comes g c to offset here named image f = record {
    named = named;
    returns = (new_return g here, whole.returns);
    stays = f.stays;
    paired = half_of g.ss (lowered (lowered g)).sp c (offsets_of (record { place = (lowered (lowered g)).sp; segment = r.cs; offset = g.ip } ∷ r.records)) r.half half f.paired;
    outside = λ out zero. record { cs = image zero; records = (out.cs, out.records) };
  }

  -- the error routine is entered in place of an overlay
  refused_comes : (g : Registers) (c : Cells) (to : Segment) (offset : ℕ) (target : Target) (w : ResidentState × Service) → g.ip ≡ ip → Firm kept g.ss c (offsets_of (record { place = (lowered (lowered g)).sp; segment = r.cs; offset = g.ip } ∷ r.records)) → IsNamed p (Image p.error_routine.segment) ⊎ ((s f : ℕ) → target ≢ Into s f) → refused_to p (called r g c to offset) target ≡ Ok w → Comes p kept r w.0
  refused_comes g c to offset (Into s f) w here firm (inl named) e =
      let t : ResidentState = refused p (called r g c to offset) in
      comes p kept r (blurred t) AtCall w e (comes_blurred p kept r t (record {
        named = named;
        returns = (new_return g here, whole.returns);
        stays = firm.stays;
        paired = half_of g.ss (lowered (lowered g)).sp c (offsets_of (record { place = (lowered (lowered g)).sp; segment = r.cs; offset = g.ip } ∷ r.records)) r.half half firm.paired;
        outside = λ out zero. record { cs = tt; records = (out.cs, out.records) };
      }))
  refused_comes g c to offset (Into s f) w here firm (inr never) e = absurd (never s f refl)
  refused_comes g c to offset (Through v f) w here firm named e = absurd (cc)
  refused_comes g c to offset Nowhere w here firm named e = absurd (cc)

  error_named : (o : Option (List ℕ)) → p.image p.error_routine.segment ≡ o → IsNamed p (Image p.error_routine.segment) ⊎ ((s f : ℕ) → image_target o p.error_routine.segment p.error_routine.offset ≢ Into s f)
  error_named None e = inr (λ s f is. absurd (cc))
  error_named (Some code) e = inl (code, e)

  called_to_comes : (g : Registers) (c : Cells) (target : Target) (w : ResidentState × Service) → g.ip ≡ ip → Firm kept g.ss c (offsets_of (record { place = (lowered (lowered g)).sp; segment = r.cs; offset = g.ip } ∷ r.records)) → LeadsToCode p target → called_to p r g c target ≡ Ok w → Comes p kept r w.0
  called_to_comes g c (Into segment offset) w here firm leads e = comes p kept r (called r g c (Image segment) offset) NoService w e (called_comes g c (Image segment) offset here (leads.into segment offset refl) (λ zero. tt) firm)
  called_to_comes g c (Through v offset) w here firm leads e =
      let flag = known_ok (c p.installed) (λ flag. entered p (called r g c (Overlay v) offset) flag) w e in
      by flag.0 flag.1 (flag.0 == 0) refl flag.2
    where
      by : (flag : ℕ) → c p.installed ≡ Known flag → (b : Bool) → (flag == 0) ≡ b → (if b then refused_to p (called r g c (Overlay v) offset) (image_target (p.image p.error_routine.segment) p.error_routine.segment p.error_routine.offset) else Ok (blurred (called r g c (Overlay v) offset), AtCall)) ≡ Ok w → Comes p kept r w.0
      by flag known true zero e = refused_comes g c (Overlay v) offset (image_target (p.image p.error_routine.segment) p.error_routine.segment p.error_routine.offset) w here firm (error_named (p.image p.error_routine.segment) refl) e
      by flag known false zero e =
          let t : ResidentState = called r g c (Overlay v) offset in
          let never : c p.installed ≡ Known 0 → IsImage (Overlay v) = λ z. not_zero flag zero (sym known ∙ z) in
          comes p kept r (blurred t) AtCall w e (comes_blurred p kept r t (called_comes g c (Overlay v) offset here (leads.through v offset refl) never firm))
  called_to_comes g c Nowhere w here firm leads e = absurd (cc)

  call_comes : (g : Registers) (c : Cells) (target : Target) (w : ResidentState × Service) → g.ip ≡ ip → Firm kept g.ss c (offsets_of r.records) → LeadsToCode p target → far_call p r g c target ≡ Ok w → Comes p kept r w.0
  call_comes g c target w here firm leads e =
      let first : ℕ = (lowered g).sp in
      let second : ℕ = (lowered (lowered g)).sp in
      let c1 : Cells = with_word c g.ss first Paired in
      let one = paired_ok c g.ss first (λ half. paired_then half g.ss second (λ all. called_to p r g all target)) w e in
      let two = paired_ok c1 g.ss second (λ all. called_to p r g all target) w one.goes_on in
      let f1 = firm_pushed kept g.ss c c1 (offsets_of r.records) first (omega arith) one.low one.high (with_word-pushed c g.ss first (omega arith)) firm in
      let f2 = firm_pushed kept g.ss c1 (with_word c1 g.ss second Paired) (first ∷ offsets_of r.records) second (omega arith) two.low two.high (with_word-pushed c1 g.ss second (omega arith)) f1 in
      called_to_comes g (with_word c1 g.ss second Paired) target w here (subst (λ z. Firm kept g.ss (with_word c1 g.ss second Paired) (second ∷ z ∷ offsets_of r.records)) (lowered-raised g.sp) f2) leads two.goes_on

  returned_comes : (t : ResidentState) (segment : Segment) (w : ResidentState × Service) → Comes p kept r t → returned_into segment t ≡ Ok w → Comes p kept r w.0
  returned_comes t (Image number) w h e = comes p kept r t NoService w e h
  returned_comes t (Overlay number) w h e = comes p kept r (blurred t) AtReturn w e (comes_blurred p kept r t h)

  return_comes : (g : Registers) (c : Cells) (dropped : ℕ) (records : List Record) (w : ResidentState × Service) → Firm kept g.ss c (offsets_of records) → AllByRecursion (IsReturn p) records → (IsOutside r → AllByRecursion (λ (x : Record). IsImage x.segment) records) → far_return r g c dropped records ≡ Ok w → Comes p kept r w.0
  return_comes g c dropped [] w firm named images e = absurd (cc)
  return_comes g c dropped (x ∷ others) w firm named images e =
      let both = unless_ok (x.place == g.sp) (returned_into x.segment (returned r g c dropped x others)) ReturnsElsewhere w e in
      let at : x.place ≡ g.sp = eqb-true x.place g.sp both.0 in
      let low = firm_taken kept g.ss c x.place ((x.place + 2) % 65536 ∷ offsets_of others) firm in
      let high = firm_taken kept g.ss (with_word c g.ss x.place Unknown) ((x.place + 2) % 65536) (offsets_of others) low in
      let held = subst (λ z. Firm kept g.ss (with_word (with_word c g.ss z Unknown) g.ss ((z + 2) % 65536) Unknown) (offsets_of others)) at high in
      returned_comes (returned r g c dropped x others) x.segment w (record {
        named = named.0.named;
        returns = named.1;
        stays = held.stays;
        paired = half_of g.ss (raised g (4 + dropped)).sp (taken_pair g c) (offsets_of others) r.half half held.paired;
        outside = λ out zero. record { cs = (images out).0; records = (images out).1 };
      }) both.1

  jump_comes : (g : Registers) (c : Cells) (target : Target) (w : ResidentState × Service) → Firm kept g.ss c (offsets_of r.records) → LeadsToCode p target → jumped_to r g c target ≡ Ok w → Comes p kept r w.0
  jump_comes g c (Into segment offset) w firm leads e =
      comes p kept r (record r { registers = at_offset g offset; cs = Image segment; cells = c }) NoService w e (record {
        named = leads.into segment offset refl;
        returns = whole.returns;
        stays = firm.stays;
        paired = half_of g.ss g.sp c (offsets_of r.records) r.half half firm.paired;
        outside = λ out zero. record { cs = tt; records = out.records };
      })
  jump_comes g c (Through v offset) w firm leads e = absurd (cc)
  jump_comes g c Nowhere w firm leads e = absurd (cc)

  half_comes : (g : Registers) (c : Cells) (w : ResidentState × Service) → Firm kept g.ss c (offsets_of r.records) → half_pushed r g c ≡ Ok w → Comes p kept r w.0
  half_comes g c w firm e =
      let first : ℕ = (lowered g).sp in
      let one = paired_ok c g.ss first (λ half. plainly (record r { registers = lowered g; cells = half; half = true })) w e in
      let c1 : Cells = with_word c g.ss first Paired in
      let f1 = firm_pushed kept g.ss c c1 (offsets_of r.records) first (omega arith) one.low one.high (with_word-pushed c g.ss first (omega arith)) firm in
      comes p kept r (record r { registers = lowered g; cells = c1; half = true }) NoService w one.goes_on (record {
        named = whole.named;
        returns = whole.returns;
        stays = f1.stays;
        paired = f1.paired;
        outside = λ out zero. record { cs = out.cs; records = out.records };
      })

  -- ## The tree

  at_ss : (g : Registers) (c : Cells) → g.ss ≡ r.registers.ss → Firm kept r.registers.ss c (offsets_of r.records) → Firm kept g.ss c (offsets_of r.records)
  at_ss g c e f = subst (λ z. Firm kept z c (offsets_of r.records)) (sym e) f

  pub tree_comes : (a : Act) (c : Cells) (w : ResidentState × Service) → CallsFrom ip a → Firm kept r.registers.ss c (offsets_of r.records) → on_cells p r a c ≡ Ok w → Comes p kept r w.0
  tree_comes (Done g) c w calls f e =
      let x = stack_ok r g (plainly (with_memory r g c)) w e in
      comes p kept r (with_memory r g c) NoService w x.1 (same_end (with_memory r g c) refl refl refl (at_ss g c x.0 f))
  tree_comes (Read place next) c w calls f e = let x = known_ok (c place) (λ v. on_cells p r (next v) c) w e in tree_comes (next x.0) c w (calls x.0) f x.2
  tree_comes (Write place value next) c w calls f e =
      let x = free_ok (c place) (on_cells p r next (with_cell c place (Known value))) w e in
      tree_comes next (with_cell c place (Known value)) w calls (firm_written kept r.registers.ss c (offsets_of r.records) place (Known value) x.0 f) x.1
  tree_comes (Copy from to next) c w calls f e =
      let x = moved_ok (c from) (λ y. free_then (c to) (on_cells p r next (with_cell c to y))) w e in
      let y = free_ok (c to) (on_cells p r next (with_cell c to (c from))) w x in
      tree_comes next (with_cell c to (c from)) w calls (firm_written kept r.registers.ss c (offsets_of r.records) to (c from) y.0 f) y.1
  tree_comes (ReadCodeSegment next) c w calls f e = absurd (cc)
  tree_comes (FarCall g segment offset) c w calls f e =
      let x = stack_ok r g (far_call p r g c (far_target p segment offset)) w e in call_comes g c (far_target p segment offset) w calls (at_ss g c x.0 f) (far_leads p segment offset) x.1
  tree_comes (FarReturn g dropped) c w calls f e =
      let x = stack_ok r g (far_return r g c dropped r.records) w e in return_comes g c dropped r.records w (at_ss g c x.0 f) whole.returns (λ out. out.records) x.1
  tree_comes (FarJump g segment offset) c w calls f e =
      let x = stack_ok r g (jumped_to r g c (image_target (p.image segment) segment offset)) w e in
      jump_comes g c (image_target (p.image segment) segment offset) w (at_ss g c x.0 f) (image_leads p segment offset (p.image segment) refl) x.1
  tree_comes (PushCodeSegment g) c w calls f e = let x = stack_ok r g (half_pushed r g c) w e in half_comes g c w (at_ss g c x.0 f) x.1
  tree_comes (Interrupt g number) c w calls f e =
      let x = stack_ok r g (serviced r (with_memory r g c) number) w e in service_comes (with_memory r g c) number w refl refl refl (at_ss g c x.0 f) x.1
  tree_comes DivideFault c w calls f e = comes p kept r (stopped r why.Divide) NoService w e (stopped_end why.Divide)

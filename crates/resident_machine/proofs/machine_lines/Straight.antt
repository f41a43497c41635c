-- A straight list of instructions is carried through the resident machine at once.
use Rattle.std.proofs.Common.{◌≡◌, ◌≢◌, ℕ, suc, ◌+◌, ◌%◌, ◌<◌, ◌==◌, drop, eq-eqb, Bool, true, false, List, [], ◌∷◌, length, Ok, Err, arith, refl, sym, ap, subst, ◌∙◌}
use Rattle.std.specs.Prelude.{IsTrue, if◌then◌else◌, not, ◌&&◌}
use Rattle.std.proofs.Math.Nat.{mod-eq_of_lt}
use Rattle.std.proofs.lemmas.Bool.{ne_eqb}
use Rattle.x86_table.specs.declared.instr.Instr.{Instr}
use Rattle.x86_table.specs.Spelling.{spelling}
use Rattle.x86_table.specs.Standing.{IsSpelledAt, Stands}
use Rattle.cpu_8086.specs.declared.registers.Registers.{Registers}
use Rattle.cpu_8086.specs.Access.{Act, Done, Read, Write, Copy, ReadCodeSegment, FarCall, FarReturn, FarJump, PushCodeSegment, Interrupt, DivideFault, at_offset}
use Rattle.cpu_8086.specs.Effect.{act}
use Rattle.cpu_8086.specs.Step.{past}
use Rattle.resident_machine.specs.Astray.{MovesStack, Uninstalls, and_then}
use Rattle.resident_machine.specs.Cells.{Cell, Known, Unknown, Kept, Paired, Cells, with_cell, is_free, known_then, free_then, moved_then}
use Rattle.resident_machine.specs.Dos.{plainly}
use Rattle.resident_machine.specs.Effect.{Outcome, with_memory, stack_then, on_cells, plain_effect, completed, is_zero, kept_installed, effect_of}
use Rattle.resident_machine.specs.Program.{Segment, Program, code_of}
use Rattle.resident_machine.specs.Run.{StandsAt}
use Rattle.resident_machine.specs.State.{ResidentState, Service, NoService}
use Rattle.resident_machine.specs.machine_lines.Steps.{number_in, ReadsAbove, Moves, Leads}
use Rattle.resident_machine.specs.machine_lines.Straight.{is_plain, all_plain, ones, registers_after, cells_after, IsKnown, Asks, tree, AskAll, registers_past, cells_past, Placed, IsAt, StaysFree, Carried}
use Rattle.resident_machine.proofs.machine_lines.Steps.{nothing_owed}
use Rattle.resident_machine.proofs.machine_lines.Trees.{EndsAt, plain_ends}

-- ## A tree

free_goes : (cell : Cell) (next : Outcome) → IsTrue (is_free cell) → free_then cell next ≡ next
free_goes (Known v) next h = refl
free_goes Unknown next h = refl
free_goes Kept next h = absurd (cc)
free_goes Paired next h = absurd (cc)

moved_goes : (cell : Cell) (next : Cell → Outcome) → IsTrue (is_free cell) → moved_then cell next ≡ next cell
moved_goes (Known v) next h = refl
moved_goes Unknown next h = refl
moved_goes Kept next h = absurd (cc)
moved_goes Paired next h = absurd (cc)

-- a byte is written: what was free is free, and another byte is as it was
stays_free : (c : Cells) (place : ℕ) (cell : Cell) (other : ℕ) → IsTrue (is_free cell) → IsTrue (is_free (c other)) → IsTrue (is_free (with_cell c place cell other))
stays_free c place cell other h g = by (other == place)
  where
    by : (b : Bool) → IsTrue (is_free (if b then cell else c other))
    by true = h
    by false = g

free_on : (start c : Cells) (place : ℕ) (cell : Cell) → IsTrue (is_free cell) → StaysFree start c → StaysFree start (with_cell c place cell)
free_on start c place cell h f = λ other at. stays_free c place cell other h (f other at)

other_cell : (c : Cells) (place : ℕ) (cell : Cell) (other : ℕ) → other ≢ place → with_cell c place cell other ≡ c other
other_cell c place cell other ne = ap (λ b. if b then cell else c other) (ne_eqb other place ne)

-- what a tree that is given what it asks comes to
record Walked (p : Program) (r : ResidentState) (start : Cells) (ss sp ip : ℕ) (a : Act) (c : Cells) (rest : Registers → Cells → Type 0) : Type 0 where
  runs : on_cells p r a c ≡ plainly (with_memory r (registers_after a c) (cells_after a c))
  above : ReadsAbove ss sp a c
  asks : rest (registers_after a c) (cells_after a c)
  ip_is : (registers_after a c).ip ≡ ip
  ss_is : (registers_after a c).ss ≡ r.registers.ss
  flag : cells_after a c p.installed ≡ c p.installed
  free : StaysFree start (cells_after a c)

known_goes : (cell : Cell) (next : ℕ → Outcome) → IsKnown cell → known_then cell next ≡ next (number_in cell)
known_goes cell next h = ap (λ x. known_then x next) h.1 ∙ ap (λ x. next (number_in x)) (sym h.1)

pub same_stack : (r : ResidentState) (g : Registers) (next : Outcome) → g.ss ≡ r.registers.ss → stack_then r g next ≡ next
same_stack r g next e = ap (λ b. if b then next else Err MovesStack) (eq-eqb g.ss r.registers.ss e)

walked : (p : Program) (r : ResidentState) (start : Cells) (ss sp ip : ℕ) (a : Act) (c : Cells) (rest : Registers → Cells → Type 0) → EndsAt ip r.registers.ss a → StaysFree start c → Asks start p.installed ss sp a c rest → Walked p r start ss sp ip a c rest
walked p r start ss sp ip (Done g) c rest ends frees asks = record {
  runs = same_stack r g _ ends.1;
  above = tt;
  asks = asks;
  ip_is = ends.0;
  ss_is = ends.1;
  flag = refl;
  free = frees;
}
walked p r start ss sp ip (Read place next) c rest ends frees asks =
    let w = walked p r start ss sp ip (next (number_in (c place))) c rest (ends (number_in (c place))) frees asks.2 in
    record {
      runs = known_goes (c place) (λ v. on_cells p r (next v) c) asks.0 ∙ w.runs;
      above = (asks.1, w.above);
      asks = w.asks;
      ip_is = w.ip_is;
      ss_is = w.ss_is;
      flag = w.flag;
      free = w.free;
    }
walked p r start ss sp ip (Write place value next) c rest ends frees asks =
    let here = asks.0 in
    let w = walked p r start ss sp ip next (with_cell c place (Known value)) rest ends (free_on start c place (Known value) refl frees) asks.1 in
    record {
      runs = free_goes (c place) _ (frees place here.free) ∙ w.runs;
      above = w.above;
      asks = w.asks;
      ip_is = w.ip_is;
      ss_is = w.ss_is;
      flag = w.flag ∙ other_cell c place (Known value) p.installed (λ e. here.apart (sym e));
      free = w.free;
    }
walked p r start ss sp ip (Copy from to next) c rest ends frees asks =
    let there = frees from asks.0 in
    let here = asks.2 in
    let w = walked p r start ss sp ip next (with_cell c to (c from)) rest ends (free_on start c to (c from) there frees) asks.3 in
    record {
      runs = moved_goes (c from) (λ x. free_then (c to) (on_cells p r next (with_cell c to x))) there ∙ free_goes (c to) _ (frees to here.free) ∙ w.runs;
      above = (asks.1, w.above);
      asks = w.asks;
      ip_is = w.ip_is;
      ss_is = w.ss_is;
      flag = w.flag ∙ other_cell c to (c from) p.installed (λ e. here.apart (sym e));
      free = w.free;
    }
walked p r start ss sp ip (ReadCodeSegment next) c rest ends frees asks = absurd asks
walked p r start ss sp ip (FarCall g to at) c rest ends frees asks = absurd asks
walked p r start ss sp ip (FarReturn g dropped) c rest ends frees asks = absurd asks
walked p r start ss sp ip (FarJump g to at) c rest ends frees asks = absurd asks
walked p r start ss sp ip (PushCodeSegment g) c rest ends frees asks = absurd asks
walked p r start ss sp ip (Interrupt g number) c rest ends frees asks = absurd asks
walked p r start ss sp ip DivideFault c rest ends frees asks = absurd asks

-- ## An instruction

-- the installed flag is kept where its byte is
flag_kept : (p : Program) (r t : ResidentState) (service : Service) → t.cells p.installed ≡ r.cells p.installed → kept_installed p r (t, service) ≡ Ok (t, service)
flag_kept p r t service e = by (is_zero (r.cells p.installed)) (is_zero (t.cells p.installed)) (ap is_zero e)
  where
    done : Outcome
    done = Ok (t, service)

    by : (a b : Bool) → b ≡ a → (if not a && b then Err Uninstalls else done) ≡ done
    by true b e = refl
    by false true e = absurd (cc)
    by false false e = refl

-- an effect that only goes on
pub plain_goes : (p : Program) (r t : ResidentState) (service : Service) (i : Instr) → r.half ≡ false → plain_effect p r i ≡ Ok (t, service) → t.cells p.installed ≡ r.cells p.installed → effect_of p r i ≡ Ok (t, service)
unfolding effect_of
plain_goes p r t service i half e flag =
    ap (λ b. and_then (if b then completed p r i else plain_effect p r i) (kept_installed p r)) half
    ∙ ap (λ o. and_then o (kept_installed p r)) e
    ∙ flag_kept p r t service flag

-- the instruction that a state stands at
pub standing : (p : Program) (cs : Segment) (code : List ℕ) (at : ℕ → ℕ) (k : ℕ) (i : Instr) (r : ResidentState) → Placed p cs code at → IsAt cs (at k) r → IsSpelledAt code (at k) i → StandsAt p r i
standing p cs code at k i r pl here s = record {
  code = code;
  named = ap (code_of p) here.segment ∙ pl.named;
  rest = s.0;
  spelled = ap (λ n. drop n code) here.offset ∙ s.1;
}

-- the registers behind an instruction, whose IP is the next line's offset
pub past_line : (cs : Segment) (at : ℕ → ℕ) (k : ℕ) (i : Instr) (r : ResidentState) → IsAt cs (at k) r → at (k + 1) ≡ at k + length (spelling i) → at (k + 1) < 65536 → past i r.registers ≡ at_offset r.registers (at (k + 1))
past_line cs at k i r here e fits =
    let n : r.registers.ip + length (spelling i) ≡ at (k + 1) = ap (λ m. m + length (spelling i)) here.offset ∙ sym e in
    ap (λ m. at_offset r.registers m) (ap (λ m. m % 65536) n ∙ mod-eq_of_lt fits)

-- one instruction, and what it leaves for the next one
record Passed (p : Program) (framed : Bool) (cs : Segment) (ip : ℕ) (start : Cells) (r : ResidentState) (g : Registers) (c : Cells) : Type 0 where
  moves : Moves p framed r (with_memory r g c)
  here : IsAt cs ip (with_memory r g c)
  ss : g.ss ≡ r.registers.ss
  flag : c p.installed ≡ r.cells p.installed
  free : StaysFree start c

one_passed : (p : Program) (framed : Bool) (cs : Segment) (code : List ℕ) (at : ℕ → ℕ) (k : ℕ) (i : Instr) (r : ResidentState) (start : Cells) (rest : Registers → Cells → Type 0) → Placed p cs code at → IsAt cs (at k) r → is_plain i ≡ true → IsSpelledAt code (at k) i → at (k + 1) ≡ at k + length (spelling i) → StaysFree start r.cells → Asks start p.installed r.registers.ss r.registers.sp (tree at (k + 1) i r.registers) r.cells rest → Passed p framed cs (at (k + 1)) start r (registers_after (tree at (k + 1) i r.registers) r.cells) (cells_after (tree at (k + 1) i r.registers) r.cells) × rest (registers_after (tree at (k + 1) i r.registers) r.cells) (cells_after (tree at (k + 1) i r.registers) r.cells)
one_passed p framed cs code at k i r start rest pl here plain s e frees asks =
    let next = past_line cs at k i r here e (pl.fits (k + 1)) in
    let w = walked p r start r.registers.ss r.registers.sp (at (k + 1)) (tree at (k + 1) i r.registers) r.cells rest (plain_ends i (at_offset r.registers (at (k + 1))) plain) frees asks in
    let t = with_memory r (registers_after (tree at (k + 1) i r.registers) r.cells) (cells_after (tree at (k + 1) i r.registers) r.cells) in
    let effect : plain_effect p r i ≡ Ok (t, NoService) = ap (λ g. on_cells p r (act g i) r.cells) next ∙ w.runs in (
      record {
        moves = record {
          service = NoService;
          goes = record { running = here.running; instruction = i; stands = standing p cs code at k i r pl here s; result = plain_goes p r t NoService i here.half effect w.flag };
          owed = nothing_owed framed p t;
          above = subst (λ g. ReadsAbove r.registers.ss r.registers.sp (act g i) r.cells) (sym next) w.above;
        };
        here = record { running = here.running; half = here.half; segment = here.segment; offset = w.ip_is };
        ss = w.ss_is;
        flag = w.flag;
        free = w.free;
      },
      w.asks,
    )

-- ## A list of instructions

both_plain : (a b : Bool) → (a && b) ≡ true → (a ≡ true) × (b ≡ true)
both_plain true b e = (refl, e)
both_plain false b e = absurd (cc)

-- the same, where bytes are free as they were at the start
record Followed (p : Program) (framed : Bool) (cs : Segment) (n ip : ℕ) (start : Cells) (r : ResidentState) (g : Registers) (c : Cells) : Type 0 where
  leads : Leads p framed n r (with_memory r g c)
  here : IsAt cs ip (with_memory r g c)
  ss : g.ss ≡ r.registers.ss
  flag : c p.installed ≡ r.cells p.installed
  free : StaysFree start c

module _ (p : Program) (framed : Bool) (cs : Segment) (code : List ℕ) (at labels : ℕ → ℕ) (pl : Placed p cs code at) where
  followed : (start : Cells) (k : ℕ) (is : List Instr) (r : ResidentState) → all_plain is ≡ true → IsAt cs (at k) r → Stands (IsSpelledAt code) at labels k (ones is) → StaysFree start r.cells → AskAll start p.installed at k is r.registers r.cells → Followed p framed cs (length is) (at (k + length is)) start r (registers_past at k is r.registers r.cells) (cells_past at k is r.registers r.cells)
  followed start k [] r plain here s frees asks =
      let e : k ≡ k + 0 = omega arith in
      record { leads = refl; here = subst (λ n. IsAt cs (at n) r) e here; ss = refl; flag = refl; free = frees }
  followed start k (i ∷ is) r plain here s frees asks =
      let plains = both_plain (is_plain i) (all_plain is) plain in
      let one = one_passed p framed cs code at k i r start (λ h d. AskAll start p.installed at (k + 1) is h d) pl here plains.0 s.0.0 s.0.1 frees asks in
      let g = registers_after (tree at (k + 1) i r.registers) r.cells in
      let c = cells_after (tree at (k + 1) i r.registers) r.cells in
      let more = followed start (k + 1) is (with_memory r g c) plains.1 one.0.here s.1 one.0.free one.1 in
      let e : k + 1 + length is ≡ k + suc (length is) = omega arith in
      record {
        leads = (with_memory r g c, one.0.moves, more.leads);
        here = subst (λ n. IsAt cs (at n) (with_memory r (registers_past at (k + 1) is g c) (cells_past at (k + 1) is g c))) e more.here;
        ss = more.ss ∙ one.0.ss;
        flag = more.flag ∙ one.0.flag;
        free = more.free;
      }

  pub line : (k : ℕ) (is : List Instr) (r : ResidentState) → all_plain is ≡ true → IsAt cs (at k) r → Stands (IsSpelledAt code) at labels k (ones is) → AskAll r.cells p.installed at k is r.registers r.cells → Carried p framed cs (length is) (at (k + length is)) r (registers_past at k is r.registers r.cells) (cells_past at k is r.registers r.cells)
  line k is r plain here s asks =
      let f = followed r.cells k is r plain here s (λ place h. h) asks in
      record { leads = f.leads; here = f.here; ss = f.ss; flag = f.flag; free = f.free }

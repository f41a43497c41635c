-- INT 21h as an event.
use Rattle.std.proofs.Common.{◌≡◌, ℕ, zero, suc, ◌+◌, ◌/◌, ◌%◌, ◌<◌, ◌≤◌, ◌==◌, Bool, true, false, List, [], ◌∷◌, length, Ok, Err, arith, refl, sym, ap, subst, ◌∙◌}
use Rattle.std.specs.Prelude.{if◌then◌else◌, Result}
use Rattle.x86_table.specs.declared.instr.Instr.TheVariants as instr
use Rattle.x86_table.specs.Spelling.{spelling}
use Rattle.x86_table.specs.Standing.{IsSpelledAt}
use Rattle.flat_code.specs.declared.memory.Cell.{Cell}
use Rattle.flat_code.specs.declared.memory.Cell.TheVariants as flat
use Rattle.flat_code.specs.declared.memory.Place.{Place}
use Rattle.flat_code.specs.Memory as flat_memory
use Rattle.flat_code.specs.Memory.{Found, ◌>>=◌, address_of, byte_in, bytes_at}
use Rattle.flat_code.specs.Program.{Choice}
use Rattle.flat_code.specs.Values.{Frame}
use Rattle.cpu_8086.specs.declared.registers.Registers.{Registers}
use Rattle.cpu_8086.specs.Access.{Interrupt, at_offset}
use Rattle.cpu_8086.specs.Effect.{act}
use Rattle.cpu_8086.specs.Memory.{address, next_offset}
use Rattle.resident_machine.specs.Astray.{Astray, and_then}
use Rattle.resident_machine.specs.Cells.{Cells, known_then, known_bytes}
use Rattle.resident_machine.specs.Dos.{plainly, said_bytes, to_output, to_errors, bad_handle, write_call, exit_call, dos_call, read_call}
use Rattle.resident_machine.specs.Effect.{Outcome, with_memory, on_cells, plain_effect}
use Rattle.resident_machine.specs.Program.{Segment, Program}
use Rattle.resident_machine.specs.State.{ResidentState, NoService}
use Rattle.resident_machine.specs.machine_lines.Steps.{IsAbove, SaysAbove, ReadsAbove, Moves, Leads}
use Rattle.resident_machine.specs.machine_lines.Straight.{Placed, IsAt}
use Rattle.resident_machine.proofs.machine_lines.Steps.{nothing_owed}
use Rattle.resident_machine.proofs.machine_lines.Straight.{plain_goes, standing, past_line, same_stack}
use Rattle.resident_machine.proofs.machine_lines.Words.{address_above}
use Rattle.statement_simulation.specs.expressions.Active.{Active}
use Rattle.statement_simulation.proofs.expressions.States.{known_kept}

int_tree : (g : Registers) → act g (instr.Int 0x21) ≡ Interrupt g 33
unfolding act
int_tree g = refl

-- a call of DOS that goes where the machine's own call goes, and keeps the installed flag
pub dos_leads : (p : Program) (framed : Bool) (cs : Segment) (code : List ℕ) (at : ℕ → ℕ) (k : ℕ) (r t : ResidentState) → Placed p cs code at → IsAt cs (at k) r → IsSpelledAt code (at k) (instr.Int 0x21) → at (k + 1) ≡ at k + length (spelling (instr.Int 0x21)) → SaysAbove r.registers.ss r.registers.sp r.registers 33 → dos_call r (with_memory r (at_offset r.registers (at (k + 1))) r.cells) ≡ plainly t → t.cells p.installed ≡ r.cells p.installed → Leads p framed 1 r t
dos_leads p framed cs code at k r t pl here s size says done flag =
    let i = instr.Int 0x21 in
    let g = at_offset r.registers (at (k + 1)) in
    let next = past_line cs at k i r here size (pl.fits (k + 1)) in
    let tree = ap (λ h. act h i) next ∙ int_tree g in
    let effect : plain_effect p r i ≡ plainly t = ap (λ a. on_cells p r a r.cells) tree ∙ same_stack r g (dos_call r (with_memory r g r.cells)) refl ∙ done in
    let moves : Moves p framed r t = record {
      service = NoService;
      goes = record { running = here.running; instruction = i; stands = standing p cs code at k i r pl here s; result = plain_goes p r t NoService i here.half effect flag };
      owed = nothing_owed framed p t;
      above = subst (λ a. ReadsAbove r.registers.ss r.registers.sp a r.cells) (sym tree) says;
    } in
    (t, moves, refl)

-- ## Which call it is, by AH

if_true : (b : Bool) (x y : Outcome) → b ≡ true → (if b then x else y) ≡ x
if_true b x y e = ap (λ c. if c then x else y) e

if_false : (b : Bool) (x y : Outcome) → b ≡ false → (if b then x else y) ≡ y
if_false b x y e = ap (λ c. if c then x else y) e

high_is : (ax n : ℕ) → ax / 256 ≡ n → (k : ℕ) → (ax / 256 == k) ≡ (n == k)
high_is ax n e k = ap (λ h. h == k) e

pub writes : (r t : ResidentState) → t.registers.ax / 256 ≡ 64 → dos_call r t ≡ write_call t
writes r t e = if_true (t.registers.ax / 256 == 64) (write_call t) _ (high_is t.registers.ax 64 e 64)

pub reads : (r t : ResidentState) → t.registers.ax / 256 ≡ 63 → dos_call r t ≡ read_call t
reads r t e =
    if_false (t.registers.ax / 256 == 64) (write_call t) _ (high_is t.registers.ax 63 e 64)
    ∙ if_true (t.registers.ax / 256 == 63) (read_call t) _ (high_is t.registers.ax 63 e 63)

pub exits : (r t : ResidentState) → t.registers.ax / 256 ≡ 76 → dos_call r t ≡ plainly (exit_call t)
exits r t e =
    if_false (t.registers.ax / 256 == 64) (write_call t) _ (high_is t.registers.ax 76 e 64)
    ∙ if_false (t.registers.ax / 256 == 63) (read_call t) _ (high_is t.registers.ax 76 e 63)
    ∙ if_true (t.registers.ax / 256 == 76) (plainly (exit_call t)) _ (high_is t.registers.ax 76 e 76)

-- ## Bytes that are written

-- what a write leaves, by whether its handle is 1, and 2
abbrev pub said_by : Bool → Bool → ResidentState → List ℕ → ResidentState
said_by true b t bytes = to_output t bytes
said_by false true t bytes = to_errors t bytes
said_by false false t bytes = bad_handle t

pub said : (t : ResidentState) (bytes : List ℕ) → said_bytes t ≡ Ok bytes → write_call t ≡ plainly (said_by (t.registers.bx == 1) (t.registers.bx == 2) t bytes)
said t bytes e = by (t.registers.bx == 1) (t.registers.bx == 2)
  where
    out : ResidentState → Outcome
    out u = plainly u

    by : (a b : Bool) → (if a then and_then (said_bytes t) (λ bs. plainly (to_output t bs)) else (if b then and_then (said_bytes t) (λ bs. plainly (to_errors t bs)) else plainly (bad_handle t))) ≡ out (said_by a b t bytes)
    by true b = ap (λ found. and_then found (λ bs. plainly (to_output t bs))) e
    by false true = ap (λ found. and_then found (λ bs. plainly (to_errors t bs))) e
    by false false = refl

-- bytes that flat code reads are known to the machine, and none of the 64 below SP
pub record Says (g : Registers) (sp : ℕ) (c : Cells) (segment offset n : ℕ) (bytes : List ℕ) : Type 0 where
  pub known : known_bytes c segment offset n ≡ Ok bytes
  pub above : (k : ℕ) → k < n → IsAbove g.ss sp (address segment ((offset + k) % 65536))

module _ (flag : ℕ) (choice : Choice) (f : Frame) (m : flat_memory.Cells) (g : Registers) (c : Cells) (a : Active flag choice f m g c) (sp : ℕ) (room : 64 ≤ sp) (lower : sp ≤ g.sp) (q : Place) where
  said_on : (n i b : ℕ) (bytes : List ℕ) → m (address_of q i) ≡ flat.Known b → Says g sp c q.segment ((q.offset + (i + 1)) % 65536) n bytes → Says g sp c q.segment ((q.offset + i) % 65536) (suc n) (b ∷ bytes)
  said_on n i b bytes e s =
      let o = (q.offset + i) % 65536 in
      let next : next_offset o ≡ (q.offset + (i + 1)) % 65536 = omega arith in
      let top = a.top in
      let inside = a.inside in
      let kept = known_kept flag choice f m g c (address_of q i) b a e in
      let here = address_above g.ss sp (address_of q i) room (omega arith) (omega arith) (λ low. let z = kept low in omega arith) in
      record {
        known = ap (λ x. known_then x (λ v. and_then (known_bytes c q.segment (next_offset o) n) (λ vs. Ok (v ∷ vs)))) (a.known (address_of q i) b e)
            ∙ ap (λ o. and_then (known_bytes c q.segment o n) (λ vs. Ok (b ∷ vs))) next
            ∙ ap (λ found. and_then found (λ vs. Ok (b ∷ vs))) s.known;
        above = λ k less. above k less here;
      }
    where
      above : (k : ℕ) → k < suc n → IsAbove g.ss sp (address_of q i) → IsAbove g.ss sp (address q.segment ((((q.offset + i) % 65536) + k) % 65536))
      above zero less here =
          let same : (q.offset + i) % 65536 ≡ (((q.offset + i) % 65536) + 0) % 65536 = omega arith in
          subst (λ o. IsAbove g.ss sp (address q.segment o)) same here
      above (suc k) less here =
          let same : (((q.offset + (i + 1)) % 65536) + k) % 65536 ≡ (((q.offset + i) % 65536) + suc k) % 65536 = omega arith in
          subst (λ o. IsAbove g.ss sp (address q.segment o)) same (s.above k (omega arith))

  pub bytes_said : (n i : ℕ) (bytes : List ℕ) → bytes_at m q i n ≡ Ok bytes → Says g sp c q.segment ((q.offset + i) % 65536) n bytes
  bytes_said zero i bytes e = record { known = ap as_known e; above = λ k less. absurd (omega (arith, less)) }
    where
      as_known : Found (List ℕ) → Result (List ℕ) Astray
      as_known (Ok xs) = Ok xs
      as_known (Err trap) = Ok []
  bytes_said (suc n) i bytes e = by (bytes_said n (i + 1)) (m (address_of q i)) refl e
    where
      Behind : Type 0
      Behind = (bytes : List ℕ) → bytes_at m q (i + 1) n ≡ Ok bytes → Says g sp c q.segment ((q.offset + (i + 1)) % 65536) n bytes

      or_none : Found (List ℕ) → List ℕ
      or_none (Ok xs) = xs
      or_none (Err trap) = []

      rest : Behind → (b : ℕ) → m (address_of q i) ≡ flat.Known b → (found : Found (List ℕ)) → bytes_at m q (i + 1) n ≡ found → (found >>= λ bs. Ok (b ∷ bs)) ≡ Ok bytes → Says g sp c q.segment ((q.offset + i) % 65536) (suc n) bytes
      rest again b here (Ok bs) behind e = subst (λ xs. Says g sp c q.segment ((q.offset + i) % 65536) (suc n) xs) (ap or_none e) (said_on n i b bs here (again bs behind))
      rest again b here (Err trap) behind e = absurd (cc)

      by : Behind → (x : Cell) → m (address_of q i) ≡ x → (byte_in x >>= λ b. bytes_at m q (i + 1) n >>= λ bs. Ok (b ∷ bs)) ≡ Ok bytes → Says g sp c q.segment ((q.offset + i) % 65536) (suc n) bytes
      by again (flat.Known b) here e = rest again b here (bytes_at m q (i + 1) n) refl e
      by again flat.Unset here e = absurd (cc)
      by again flat.Outside here e = absurd (cc)

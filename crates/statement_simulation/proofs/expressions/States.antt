-- Activations stay what they are where code keeps them; words that flat code reads are there.
use Rattle.std.proofs.Common.{◌≡◌, ℕ, ◌+◌, ◌*◌, ◌%◌, ◌<◌, ◌≤◌, Ok, Err, arith, refl, sym, ap, subst, ◌∙◌, ⊎_elim}
use Rattle.std.proofs.lemmas.Bool.{cases_lt}
use Rattle.flat_code.specs.declared.memory.Cell.{Cell}
use Rattle.flat_code.specs.declared.memory.Cell.TheVariants as flat
use Rattle.flat_code.specs.declared.memory.Place.{Place}
use Rattle.flat_code.specs.declared.memory.Trap.TheVariants.{ByZero}
use Rattle.flat_code.specs.Memory as flat_memory
use Rattle.flat_code.specs.Memory.{Found, ◌>>=◌, address_of, byte_in, byte_at, word_at}
use Rattle.flat_code.specs.Program.{Choice}
use Rattle.flat_code.specs.Values.{Frame}
use Rattle.cpu_8086.specs.declared.registers.Registers.{Registers}
use Rattle.cpu_8086.specs.Memory.{address, next_offset, word_of}
use Rattle.resident_machine.specs.Cells.{Known, Cells}
use Rattle.resident_machine.specs.machine_lines.Steps.{number_in, IsAbove}
use Rattle.resident_machine.specs.machine_lines.Straight.{MayWrite, StaysFree, IsKnown}
use Rattle.resident_machine.proofs.machine_lines.Words.{address_above}
use Rattle.statement_simulation.specs.expressions.Active.{Active, IsKept, Keeps}

-- what flat code knows lies outside the stack below SP
pub known_kept : (flag : ℕ) (choice : Choice) (f : Frame) (m : flat_memory.Cells) (g : Registers) (c : Cells) (place byte : ℕ) → Active flag choice f m g c → m place ≡ flat.Known byte → IsKept g place
known_kept flag choice f m g c place byte a e low =
    ⊎_elim (λ lt. let o = a.below place low lt in absurd (cc)) (λ le. le) (cases_lt place (16 * g.ss + g.sp))

pub keeps_same : (g h : Registers) (c : Cells) → h.sp ≡ g.sp → h.bp ≡ g.bp → h.ss ≡ g.ss → h.ds ≡ g.ds → h.direction ≡ g.direction → Keeps g c h c
keeps_same g h c sp bp ss ds direction = record { sp = sp; bp = bp; ss = ss; ds = ds; direction = direction; bytes = λ place k. refl; free = λ place k. k }

pub keeps_on : (g h i : Registers) (c d e : Cells) → Keeps g c h d → Keeps h d i e → Keeps g c i e
keeps_on g h i c d e a b = record {
  sp = b.sp ∙ a.sp;
  bp = b.bp ∙ a.bp;
  ss = b.ss ∙ a.ss;
  ds = b.ds ∙ a.ds;
  direction = b.direction ∙ a.direction;
  bytes = λ place k. b.bytes place (λ low. let s = a.sp in let t = a.ss in let z = k (omega arith) in omega arith) ∙ a.bytes place k;
  free = λ place k. b.free place (a.free place k);
}

may_still : (c d : Cells) (flag place : ℕ) → StaysFree c d → MayWrite c flag place → MayWrite d flag place
may_still c d flag place s h = record { free = s place h.free; apart = h.apart }

-- the same activation, with SP no higher
pub active_lower : (flag : ℕ) (choice : Choice) (f : Frame) (m : flat_memory.Cells) (g h : Registers) (c d : Cells) → Active flag choice f m g c → h.sp ≤ g.sp → h.bp ≡ g.bp → h.ss ≡ g.ss → h.ds ≡ g.ds → ((place : ℕ) → IsKept g place → d place ≡ c place) → StaysFree c d → Active flag choice f m h d
active_lower flag choice f m g h c d a sp bp ss ds bytes free =
    let top = a.top in
    let inside = a.inside in
    record {
      ss = ss ∙ a.ss;
      ds = ds ∙ a.ds;
      bp = bp ∙ a.bp;
      top = omega arith;
      inside = omega arith;
      known = λ place byte e. bytes place (known_kept flag choice f m g c place byte a e) ∙ a.known place byte e;
      small = a.small;
      reached = λ place r. may_still c d flag place free (a.reached place r);
      below = λ place low high. a.below place (omega arith) (omega arith);
      spare = λ offset lt. subst (λ s. MayWrite d flag (16 * s + offset)) (sym ss) (may_still c d flag (16 * g.ss + offset) free (a.spare offset (omega arith)));
    }

pub active_keeps : (flag : ℕ) (choice : Choice) (f : Frame) (m : flat_memory.Cells) (g h : Registers) (c d : Cells) → Active flag choice f m g c → Keeps g c h d → Active flag choice f m h d
active_keeps flag choice f m g h c d a k = active_lower flag choice f m g h c d a (let e = k.sp in omega arith) k.bp k.ss k.ds k.bytes k.free

-- a byte that flat code reads is there, and none of the 64 below SP
pub record ReadsByte (g : Registers) (c : Cells) (place v : ℕ) : Type 0 where
  pub known : c place ≡ Known v
  pub above : IsAbove g.ss g.sp place
  pub small : v < 256

pub byte_found : (flag : ℕ) (choice : Choice) (f : Frame) (m : flat_memory.Cells) (g : Registers) (c : Cells) (place v : ℕ) → Active flag choice f m g c → 64 ≤ g.sp → m place ≡ flat.Known v → ReadsByte g c place v
byte_found flag choice f m g c place v a room e = record {
  known = a.known place v e;
  above = address_above g.ss g.sp place room (let t = a.top in omega arith) a.inside (known_kept flag choice f m g c place v a e);
  small = a.small place v e;
}

-- a word that flat code reads
pub record ReadsWord (g : Registers) (c : Cells) (segment offset v : ℕ) : Type 0 where
  pub low : ℕ
  pub high : ℕ
  pub low_byte : ReadsByte g c (address segment offset) low
  pub high_byte : ReadsByte g c (address segment (next_offset offset)) high
  pub whole : word_of low high ≡ v

pub word_small : (g : Registers) (c : Cells) (segment offset v : ℕ) → ReadsWord g c segment offset v → v < 65536
word_small g c segment offset v w = let a = w.low_byte.small in let b = w.high_byte.small in let e = w.whole in omega arith

-- what the machine reads there
pub word_value : (g : Registers) (c : Cells) (segment offset v : ℕ) → ReadsWord g c segment offset v → word_of (number_in (c (address segment offset))) (number_in (c (address segment (next_offset offset)))) ≡ v
word_value g c segment offset v w =
    ap (λ x. word_of (number_in x) (number_in (c (address segment (next_offset offset))))) w.low_byte.known
    ∙ ap (λ x. word_of w.low (number_in x)) w.high_byte.known
    ∙ w.whole

pub is_known : (g : Registers) (c : Cells) (place v : ℕ) → ReadsByte g c place v → IsKnown (c place)
is_known g c place v h = (v, h.known)

abbrev or_zero : Found ℕ → ℕ
or_zero (Ok v) = v
or_zero (Err trap) = 0

first_address : (p : Place) → p.offset < 65536 → address_of p 0 ≡ address p.segment p.offset
first_address p lt = let e : (p.offset + 0) % 65536 ≡ p.offset = omega arith in ap (λ n. (16 * p.segment + n) % 1048576) e

pub byte_found_at : (flag : ℕ) (choice : Choice) (f : Frame) (m : flat_memory.Cells) (g : Registers) (c : Cells) (q : Place) (v : ℕ) → Active flag choice f m g c → 64 ≤ g.sp → q.offset < 65536 → byte_at m q 0 ≡ Ok v → ReadsByte g c (address q.segment q.offset) v
byte_found_at flag choice f m g c q v a room lt e = subst (λ place. ReadsByte g c place v) (first_address q lt) (by (m (address_of q 0)) refl e)
  where
    by : (x : Cell) → m (address_of q 0) ≡ x → byte_in x ≡ Ok v → ReadsByte g c (address_of q 0) v
    by (flat.Known b) h e = let same : b ≡ v = ap or_zero e in subst (λ n. ReadsByte g c (address_of q 0) n) same (byte_found flag choice f m g c (address_of q 0) b a room h)
    by flat.Unset h e = absurd (cc)
    by flat.Outside h e = absurd (cc)

pub word_found : (flag : ℕ) (choice : Choice) (f : Frame) (m : flat_memory.Cells) (g : Registers) (c : Cells) (q : Place) (v : ℕ) → Active flag choice f m g c → 64 ≤ g.sp → q.offset < 65536 → word_at m q ≡ Ok v → ReadsWord g c q.segment q.offset v
word_found flag choice f m g c q v a room lt e = by (m (address_of q 0)) (m (address_of q 1)) refl refl e
  where
    by : (x y : Cell) → m (address_of q 0) ≡ x → m (address_of q 1) ≡ y → (byte_in x >>= λ low. byte_in y >>= λ high. Ok (word_of low high)) ≡ Ok v → ReadsWord g c q.segment q.offset v
    by (flat.Known l) (flat.Known h) el eh e = record {
      low = l;
      high = h;
      low_byte = subst (λ place. ReadsByte g c place l) (first_address q lt) (byte_found flag choice f m g c (address_of q 0) l a room el);
      high_byte = byte_found flag choice f m g c (address_of q 1) h a room eh;
      whole = ap or_zero e;
    }
    by (flat.Known l) flat.Unset el eh e = absurd (cc)
    by (flat.Known l) flat.Outside el eh e = absurd (cc)
    by flat.Unset y el eh e = absurd (cc)
    by flat.Outside y el eh e = absurd (cc)

-- reading meets no division by 0
pub word_no_division : (m : flat_memory.Cells) (q : Place) → word_at m q ≡ Err ByZero → ⊥
word_no_division m q e = by (m (address_of q 0)) (m (address_of q 1)) e
  where
    by : (x y : Cell) → (byte_in x >>= λ low. byte_in y >>= λ high. Ok (word_of low high)) ≡ Err ByZero → ⊥
    by (flat.Known l) (flat.Known h) e = absurd (cc)
    by (flat.Known l) flat.Unset e = absurd (cc)
    by (flat.Known l) flat.Outside e = absurd (cc)
    by flat.Unset y e = absurd (cc)
    by flat.Outside y e = absurd (cc)

pub byte_no_division : (m : flat_memory.Cells) (q : Place) (i : ℕ) → byte_at m q i ≡ Err ByZero → ⊥
byte_no_division m q i e = by (m (address_of q i)) e
  where
    by : (x : Cell) → byte_in x ≡ Err ByZero → ⊥
    by (flat.Known l) e = absurd (cc)
    by flat.Unset e = absurd (cc)
    by flat.Outside e = absurd (cc)

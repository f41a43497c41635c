-- Steps over cells that did not go astray, taken apart.
use Rattle.std.proofs.Common.{◌≡◌, ◌≢◌, ℕ, ◌==◌, Bool, true, false, Result, Ok, Err, refl, sym, ap, ◌∙◌, ne_eqb, eq-eqb, eqb-true}
use Rattle.std.specs.Prelude.{IsTrue, if◌then◌else◌}
use Rattle.cpu_8086.specs.Memory.{address, next_offset}
use Rattle.cpu_8086.specs.declared.registers.Registers.{Registers}
use Rattle.resident_machine.specs.Astray.{Astray, MovesStack, and_then}
use Rattle.resident_machine.specs.Cells.{Cell, Known, Unknown, Kept, Paired, Cells, with_cell, with_word, is_free, known_then, free_then, moved_then, paired_then, is_below, lost, lost_if, with_lost}
use Rattle.resident_machine.specs.State.{ResidentState, Service}
use Rattle.resident_machine.specs.Effect.{Outcome, stack_then}

pub with_cell-same : (c : Cells) (place : ℕ) (x : Cell) → with_cell c place x place ≡ x
with_cell-same c place x = rw (eq-eqb place place refl) refl

pub with_cell-other : (c : Cells) (place : ℕ) (x : Cell) (other : ℕ) → other ≢ place → with_cell c place x other ≡ c other
with_cell-other c place x other apart = rw (ne_eqb other place apart) refl

-- a cell that is free is neither kept nor paired
pub free-kept : (x : Cell) → IsTrue (is_free x) → x ≢ Kept
free-kept (Known v) free same = absurd (cc)
free-kept Unknown free same = absurd (cc)
free-kept Kept free same = absurd (cc)
free-kept Paired free same = absurd (cc)

pub free-paired : (x : Cell) → IsTrue (is_free x) → x ≢ Paired
free-paired (Known v) free same = absurd (cc)
free-paired Unknown free same = absurd (cc)
free-paired Kept free same = absurd (cc)
free-paired Paired free same = absurd (cc)

-- so it stands elsewhere than one that is
pub free_not_kept : (c : Cells) (a b : ℕ) → IsTrue (is_free (c a)) → c b ≡ Kept → b ≢ a
free_not_kept c a b free kept same = free-kept (c a) free (ap c (sym same) ∙ kept)

pub free_not_paired : (c : Cells) (a b : ℕ) → IsTrue (is_free (c a)) → c b ≡ Paired → b ≢ a
free_not_paired c a b free paired same = free-paired (c a) free (ap c (sym same) ∙ paired)

-- ## What went on was not astray

pub known_ok : {A : Type 0} → (x : Cell) (next : ℕ → Result A Astray) (y : A) → known_then x next ≡ Ok y → (v : ℕ) × (x ≡ Known v) × (next v ≡ Ok y)
known_ok (Known v) next y e = (v, refl, e)
known_ok Unknown next y e = absurd (cc)
known_ok Kept next y e = absurd (cc)
known_ok Paired next y e = absurd (cc)

pub free_ok : {A : Type 0} → (x : Cell) (next : Result A Astray) (y : A) → free_then x next ≡ Ok y → IsTrue (is_free x) × (next ≡ Ok y)
free_ok (Known v) next y e = (refl, e)
free_ok Unknown next y e = (refl, e)
free_ok Kept next y e = absurd (cc)
free_ok Paired next y e = absurd (cc)

pub moved_ok : {A : Type 0} → (x : Cell) (next : Cell → Result A Astray) (y : A) → moved_then x next ≡ Ok y → next x ≡ Ok y
moved_ok (Known v) next y e = e
moved_ok Unknown next y e = e
moved_ok Kept next y e = absurd (cc)
moved_ok Paired next y e = absurd (cc)

pub and_then_ok : {A B : Type 0} → (o : Result A Astray) (next : A → Result B Astray) (y : B) → and_then o next ≡ Ok y → (x : A) × (o ≡ Ok x) × (next x ≡ Ok y)
and_then_ok (Ok x) next y e = (x, refl, e)
and_then_ok (Err way) next y e = absurd (cc)

pub unless_ok : {A : Type 0} → (b : Bool) (o : Result A Astray) (way : Astray) (y : A) → (if b then o else Err way) ≡ Ok y → (b ≡ true) × (o ≡ Ok y)
unless_ok true o way y e = (refl, e)
unless_ok false o way y e = absurd (cc)

pub if_ok : {A : Type 0} → (b : Bool) (o : Result A Astray) (way : Astray) (y : A) → (if b then Err way else o) ≡ Ok y → o ≡ Ok y
if_ok true o way y e = absurd (cc)
if_ok false o way y e = e

pub stack_ok : (r : ResidentState) (g : Registers) (o : Outcome) (y : ResidentState × Service) → stack_then r g o ≡ Ok y → (g.ss ≡ r.registers.ss) × (o ≡ Ok y)
stack_ok r g o y e = let both = unless_ok (g.ss == r.registers.ss) o MovesStack y e in (eqb-true _ _ both.0, both.1)

-- both bytes of the word were free
pub record PairedOk {A : Type 0} (c : Cells) (segment offset : ℕ) (next : Cells → Result A Astray) (y : A) : Type 0 where
  pub low : IsTrue (is_free (c (address segment offset)))
  pub high : IsTrue (is_free (c (address segment (next_offset offset))))
  pub goes_on : next (with_word c segment offset Paired) ≡ Ok y

pub paired_ok : {A : Type 0} → (c : Cells) (segment offset : ℕ) (next : Cells → Result A Astray) (y : A) → paired_then c segment offset next ≡ Ok y → PairedOk c segment offset next y
paired_ok c segment offset next y e =
    let first = free_ok (c (address segment offset)) (free_then (c (address segment (next_offset offset))) (next (with_word c segment offset Paired))) y e in
    let second = free_ok (c (address segment (next_offset offset))) (next (with_word c segment offset Paired)) y first.1 in
    record { low = first.0; high = second.0; goes_on = second.1 }

-- ## What is lost below SP

pub lost-kept : (x : Cell) → x ≡ Kept → lost x ≡ Kept
lost-kept x e = ap lost e

pub lost-paired : (x : Cell) → x ≡ Paired → lost x ≡ Paired
lost-paired x e = ap lost e

pub lost-known : (x : Cell) (v : ℕ) → lost x ≡ Known v → x ≡ Known v
lost-known (Known w) v e = absurd (cc)
lost-known Unknown v e = absurd (cc)
lost-known Kept v e = absurd (cc)
lost-known Paired v e = absurd (cc)

by_kept : (b : Bool) (x : Cell) → x ≡ Kept → lost_if b x ≡ Kept
by_kept true x e = lost-kept x e
by_kept false x e = e

by_paired : (b : Bool) (x : Cell) → x ≡ Paired → lost_if b x ≡ Paired
by_paired true x e = lost-paired x e
by_paired false x e = e

by_known : (b : Bool) (x : Cell) (v : ℕ) → lost_if b x ≡ Known v → x ≡ Known v
by_known true x v e = lost-known x v e
by_known false x v e = e

pub with_lost-kept : (segment offset : ℕ) (c : Cells) (place : ℕ) → c place ≡ Kept → with_lost segment offset c place ≡ Kept
unfolding with_lost
with_lost-kept segment offset c place e = by_kept (is_below 64 segment offset place) (c place) e

pub with_lost-paired : (segment offset : ℕ) (c : Cells) (place : ℕ) → c place ≡ Paired → with_lost segment offset c place ≡ Paired
unfolding with_lost
with_lost-paired segment offset c place e = by_paired (is_below 64 segment offset place) (c place) e

pub with_lost-known : (segment offset : ℕ) (c : Cells) (place v : ℕ) → with_lost segment offset c place ≡ Known v → c place ≡ Known v
unfolding with_lost
with_lost-known segment offset c place v e = by_known (is_below 64 segment offset place) (c place) v e

-- ## What is answered is one thing

abbrev or_other : {A : Type 0} → Result A Astray → A → A
or_other (Ok x) other = x
or_other (Err way) other = other

pub ok_same : {A : Type 0} → (x y : A) → (let o : Result A Astray = Ok x in o ≡ Ok y) → x ≡ y
ok_same x y e = ap (λ o. or_other o x) e

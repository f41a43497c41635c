-- Bytes that are read in parts.
use Rattle.std.proofs.Common.{◌≡◌, ℕ, ◌+◌, ◌%◌, ◌<◌, ◌≤◌, Bool, false, List, ◌++◌, length, length-append, sym, ap, ◌∙◌, arith, Option}
use Rattle.std.proofs.lemmas.Bool.{false≢true}
use Rattle.std.specs.Io.KnownBytes.{prepend_known}
use Rattle.tp_outside.proofs.Known.{prepend_known-prepend_known}
use Rattle.cpu_8086.specs.State.{State}
use Rattle.cpu_8086.specs.Process.{with_bytes}
use Rattle.dos_runner.specs.Transfer.{ReadPart, ReadLess, ReadBytes}
use Rattle.dos_runner.proofs.WithBytes.{with_bytes-append}

-- the bytes that came so far, which stand in memory
pub record ReadSoFar (segment offset count : ℕ) (old new : State) (before after : Option (List ℕ)) (done : ℕ) : Type 0 where
  pub gained : List ℕ
  pub counts : length gained ≡ done
  pub within : done ≤ count
  pub stand : new ≡ record old { memory = with_bytes old.memory segment offset gained }
  pub given : before ≡ prepend_known gained after

pub read_more : (segment offset count size place : ℕ) (old now new : State) (a b c : Option (List ℕ)) (done part : ℕ) → offset < 65536 → done + size ≤ count → place ≡ (offset + done) % 65536 → ReadSoFar segment offset count old now a b done → ReadPart segment place size now new b c part → ReadSoFar segment offset count old new a c (done + part)
read_more segment offset count size place old now new a b c done part fits within place_is before step =
    let xs : List ℕ = before.gained in
    let ys : List ℕ = step.given in
    let m : List ℕ = with_bytes old.memory segment offset xs in
    let long : length xs ≡ done = before.counts in
    let short : length ys ≡ part = step.counts in
    let at_most : part ≤ size = step.within in
    let row : with_bytes old.memory segment offset (xs ++ ys) ≡ with_bytes m segment place ys =
    with_bytes-append old.memory segment offset xs ys fits ∙ ap (λ k. with_bytes m segment ((offset + k) % 65536) ys) long ∙ ap (λ p. with_bytes m segment p ys) (sym place_is) in
    record {
      gained = xs ++ ys;
      counts = omega (arith, length-append xs ys);
      within = omega arith;
      stand = step.stand ∙ ap (λ (t : State). record t { memory = with_bytes t.memory segment place ys }) before.stand ∙ ap (λ (x : List ℕ). record old { memory = x }) (sym row);
      given = before.given ∙ ap (prepend_known xs) step.taken ∙ prepend_known-prepend_known c xs ys;
    }

-- the source failed before all came
pub read_less : (segment offset count : ℕ) (old now : State) (a b c : Option (List ℕ)) (done : ℕ) → done < count → ReadSoFar segment offset count old now a b done → c ≡ b → ReadLess count a c
read_less segment offset count old now a b c done less read same =
    let counts : length read.gained ≡ done = read.counts in
    record { given = read.gained; fewer = omega arith; taken = read.given ∙ ap (prepend_known read.gained) (sym same) }

-- all bytes came
pub all_read : (segment offset count : ℕ) (old new : State) (over over' : Bool) (a b : Option (List ℕ)) (done : ℕ) → over ≡ false → over' ≡ false → count ≤ done → ReadSoFar segment offset count old new a b done → ReadBytes segment offset count old new over over' a b done
all_read segment offset count old new over over' a b done before after enough read = record {
  gained = read.gained;
  counts = read.counts;
  within = read.within;
  short = λ h. absurd (omega arith);
  stand = read.stand;
  gave = record { given = read.given; stays_over = λ e. absurd (false≢true (sym before ∙ e)); at_end = λ known e. absurd (false≢true (sym after ∙ e)) };
}

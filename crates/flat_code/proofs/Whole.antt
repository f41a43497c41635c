-- Whole runs under growing numbers of turns.
use Rattle.std.proofs.Common.{◌≡◌, ℕ, suc, ◌+◌, ◌-◌, ◌<◌, ◌≤◌, List, [], ◌∷◌, Option, Some, None, refl, sym, ap, subst, arith}
use Rattle.std.proofs.lemmas.List.{append-nil}
use Rattle.common_values.specs.behaviour.Seen.{Ended, Going, Undefined, Stopped, Seen, Begins, IsOver, IsRun}
use Rattle.flat_code.specs.Program.{Name, FlatProgram, Choice}
use Rattle.flat_code.specs.Meaning.{State, Outcome, Next, Left, Returned, Over, Does, run, start_frame, start_state, started, initial_of, all_started, seen_so, seen_of, flat_run}
use Rattle.flat_code.proofs.After.{After, Steps, Keeps, after_and_then, after_called, after_run}
use Rattle.flat_code.proofs.More.{falls, Grows, grows, more, More, Alike, more_and_then, more_called, more_run}

-- ---- the starts

pub after_started : {Q : State → State → Type 0} → Steps Q → (program : FlatProgram) (choice : Choice) (again : Does) → Keeps Q again → (name : Name) (initial : Option ℕ) (s : State) → After Q s (started program choice again name initial s)
after_started steps program choice again keeps name None s = steps.itself s
after_started steps program choice again keeps name (Some number) s = after_called steps program choice again keeps [] None (start_frame program) s (record { unit = name; number = number })

pub after_all_started : {Q : State → State → Type 0} → Steps Q → (program : FlatProgram) (choice : Choice) (again : Does) → Keeps Q again → (names : List Name) (s : State) → After Q s (all_started program choice again names s)
after_all_started steps program choice again keeps [] s = steps.itself s
after_all_started steps program choice again keeps (name ∷ names) s =
    let initial = initial_of (program.unit name) in
    after_and_then steps s (started program choice again name initial s) (all_started program choice again names) (after_started steps program choice again keeps name initial s) (λ t p. after_all_started steps program choice again keeps names t)

more_started : (program : FlatProgram) (choice : Choice) (A B : Does) (k bound : ℕ) → Alike A B k bound → (name : Name) (initial : Option ℕ) (s : State) → s.turns < bound → More k (started program choice A name initial s) (started program choice B name initial (more k s))
more_started program choice A B k bound alike name None s p = refl
more_started program choice A B k bound alike name (Some number) s p = more_called program choice A B k bound alike [] None (start_frame program) s (record { unit = name; number = number }) p

more_all_started : (program : FlatProgram) (choice : Choice) (A B : Does) (k bound : ℕ) → Alike A B k bound → (names : List Name) (s : State) → s.turns < bound → More k (all_started program choice A names s) (all_started program choice B names (more k s))
more_all_started program choice A B k bound alike [] s p = refl
more_all_started program choice A B k bound alike (name ∷ names) s p =
    let initial = initial_of (program.unit name) in
    more_and_then k s (started program choice A name initial s) (started program choice B name initial (more k s)) (all_started program choice A names) (all_started program choice B names)
    (more_started program choice A B k bound alike name initial s p) (after_started falls program choice A alike.falling name initial s)
    (λ t q. more_all_started program choice A B k bound alike names t (omega arith)) (λ t. after_all_started grows program choice B alike.growing names t)

-- ---- what is seen

begins_itself : (xs : List ℕ) → Begins xs xs
begins_itself xs = ([], sym (append-nil xs))

-- what one outcome shows that was given more turns than another
pub record SeenMore (x y : Seen) : Type 0 where
  pub over : IsOver x.end → y ≡ x
  pub out : Begins x.out y.out
  pub err : Begins x.err y.err

seen_itself : (input : List ℕ) (x y : Outcome) → (seen_of input y).seen ≡ (seen_of input x).seen → SeenMore (seen_of input x).seen (seen_of input y).seen
seen_itself input x y e = record {
  over = λ p. e;
  out = subst (λ (z : Seen). Begins (seen_of input x).seen.out z.out) (sym e) (begins_itself (seen_of input x).seen.out);
  err = subst (λ (z : Seen). Begins (seen_of input x).seen.err z.err) (sym e) (begins_itself (seen_of input x).seen.err);
}

seen_grown : (input : List ℕ) (s : State) (y : Outcome) → After Grows s y → SeenMore (seen_so Going input s).seen (seen_of input y).seen
seen_grown input s (Next t) p = record { over = λ o. absurd o; out = p.0; err = p.1 }
seen_grown input s (Left loops t) p = record { over = λ o. absurd o; out = p.0; err = p.1 }
seen_grown input s (Returned t) p = record { over = λ o. absurd o; out = p.0; err = p.1 }
seen_grown input s (Over standing t) p = record { over = λ o. absurd o; out = p.0; err = p.1 }

seen_more : (input : List ℕ) (k : ℕ) (x y : Outcome) → More k x y → SeenMore (seen_of input x).seen (seen_of input y).seen
seen_more input k (Next s) y p = seen_itself input (Next s) y (ap (λ o. (seen_of input o).seen) p)
seen_more input k (Left loops s) y p = seen_itself input (Left loops s) y (ap (λ o. (seen_of input o).seen) p)
seen_more input k (Returned s) y p = seen_itself input (Returned s) y (ap (λ o. (seen_of input o).seen) p)
seen_more input k (Over (Ended code) s) y p = seen_itself input (Over (Ended code) s) y (ap (λ o. (seen_of input o).seen) p)
seen_more input k (Over Going s) y p = seen_grown input s y p.1
seen_more input k (Over (Undefined act) s) y p = seen_itself input (Over (Undefined act) s) y (ap (λ o. (seen_of input o).seen) p)
seen_more input k (Over Stopped s) y p = seen_itself input (Over Stopped s) y (ap (λ o. (seen_of input o).seen) p)

run_seen_more : (program : FlatProgram) (choice : Choice) (input : List ℕ) (n k : ℕ) → SeenMore (flat_run program choice input n).seen (flat_run program choice input (n + k)).seen
run_seen_more program choice input n k =
    seen_more input k (all_started program choice (run program choice) program.order (start_state program choice input n)) (all_started program choice (run program choice) program.order (start_state program choice input (n + k)))
    (more_all_started program choice (run program choice) (run program choice) k (suc n)
    (record { falling = after_run falls program choice; growing = after_run grows program choice; like = λ code f t p. more_run program choice k code f t })
    program.order (start_state program choice input n) (omega arith))

run_seen : (program : FlatProgram) (choice : Choice) (input : List ℕ) (n m : ℕ) → n ≤ m → SeenMore (flat_run program choice input n).seen (flat_run program choice input m).seen
run_seen program choice input n m p =
    let e : n + (m - n) ≡ m = omega arith in
    subst (λ b. SeenMore (flat_run program choice input n).seen (flat_run program choice input b).seen) e (run_seen_more program choice input n (m - n))

-- once over a run stays as it is, and what it wrote stays written
pub flat_run-IsRun : (program : FlatProgram) (choice : Choice) (input : List ℕ) → IsRun (λ turns. (flat_run program choice input turns).seen)
flat_run-IsRun program choice input = record {
  over = λ n m p. (run_seen program choice input n m p).over;
  out = λ n m p. (run_seen program choice input n m p).out;
  err = λ n m p. (run_seen program choice input n m p).err;
}

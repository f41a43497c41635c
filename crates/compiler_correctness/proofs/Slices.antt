-- The small program, by computation.
use Rattle.std.proofs.Common.{◌≡◌, ℕ, zero, suc, ◌≤◌, true, false, List, [], refl, sym, subst, arith, codes}
use Rattle.std.specs.Fmt.{digits}
use Rattle.common_values.specs.behaviour.Seen.{Ended, Going, Seen, Shows}
use Rattle.tp_meaning.specs.Examples.{ends, error_line}
use Rattle.tp_meaning.specs.Meaning.{mean, run}
use Rattle.tp_meaning.specs.ShownCalls.{Boxed}
use Rattle.flat_code.specs.Meaning.{FlatSeen, flat_run, run as run_code}
use Rattle.flat_code.specs.Program.{Choice}
use Rattle.compiler_correctness.specs.Runs.{IsPaid}
use Rattle.compiler_correctness.specs.Slice.{slice, flat_slice, SliceFollows}

-- ---- what the source means

refused : (b : Boxed) (input : List ℕ) (turns : ℕ) → mean (slice b true) input turns ≡ ends (Ended 208) [] (error_line (codes "208"))
unfolding run digits
refused b input turns = refl

begins : (b : Boxed) (input : List ℕ) → mean (slice b false) input 0 ≡ ends Going [] []
unfolding run digits
begins b input = refl

divides : (b : Boxed) (input : List ℕ) (turns : ℕ) → mean (slice b false) input (suc turns) ≡ ends (Ended 200) [] (error_line (codes "200"))
unfolding run digits
divides b input turns = refl

-- ---- what the flat program shows

flat_refused : (choice : Choice) (input : List ℕ) → (flat_run (flat_slice true) choice input 1).seen ≡ ends (Ended 208) [] (error_line (codes "208"))
unfolding run_code digits
flat_refused choice input = refl

refused_work : (choice : Choice) (input : List ℕ) → (flat_run (flat_slice true) choice input 1).work ≡ 0
unfolding run_code digits
refused_work choice input = refl

flat_begins : (choice : Choice) (input : List ℕ) → (flat_run (flat_slice false) choice input 0).seen ≡ ends Going [] []
unfolding run_code digits
flat_begins choice input = refl

begins_work : (choice : Choice) (input : List ℕ) → (flat_run (flat_slice false) choice input 0).work ≡ 1
unfolding run_code digits
begins_work choice input = refl

flat_divides : (choice : Choice) (input : List ℕ) → (flat_run (flat_slice false) choice input 2).seen ≡ ends (Ended 200) [] (error_line (codes "200"))
unfolding run_code digits
flat_divides choice input = refl

divides_work : (choice : Choice) (input : List ℕ) → (flat_run (flat_slice false) choice input 2).work ≡ 3
unfolding run_code digits
divides_work choice input = refl

-- ---- the one follows the other

-- a target that shows the same at some bound, with little work
ended : (turns m code read : ℕ) (err : List ℕ) (x y : Seen) (work : ℕ) → x ≡ ends (Ended code) [] err → y ≡ ends (Ended code) [] err → work ≤ 4 → Shows turns m x y × IsPaid 4 turns read x.end work
ended turns m code read err x y work e f small =
    subst (λ (x : Seen). Shows turns m x y × IsPaid 4 turns read x.end work) (sym e)
    (subst (λ (y : Seen). Shows turns m (ends (Ended code) [] err) y × IsPaid 4 turns read (Ended code) work) (sym f) (record { out = refl; err = refl; stands = refl }, omega (arith, small)))

going : (read : ℕ) (x y : Seen) (work : ℕ) → x ≡ ends Going [] [] → y ≡ ends Going [] [] → work ≤ 4 → Shows 0 0 x y × IsPaid 4 0 read x.end work
going read x y work e f small =
    subst (λ (x : Seen). Shows 0 0 x y × IsPaid 4 0 read x.end work) (sym e)
    (subst (λ (y : Seen). Shows 0 0 (ends Going [] []) y × IsPaid 4 0 read Going work) (sym f) (record { out = refl; err = refl; stands = (omega arith, refl) }, omega (arith, small)))

pub slice_follows : SliceFollows
slice_follows b true reached choice reaches runtime legal segments input bytes turns =
    let target : FlatSeen = flat_run (flat_slice true) choice input 1 in
    let work = refused_work choice input in
    let so = ended turns 1 208 target.read (error_line (codes "208")) (mean (slice b true) input turns) target.seen target.work (refused b input turns) (flat_refused choice input) (omega (arith, work)) in
    (1, so.0, so.1)
slice_follows b false reached choice reaches runtime legal segments input bytes zero =
    let target : FlatSeen = flat_run (flat_slice false) choice input 0 in
    let work = begins_work choice input in
    let so = going target.read (mean (slice b false) input 0) target.seen target.work (begins b input) (flat_begins choice input) (omega (arith, work)) in
    (0, so.0, so.1)
slice_follows b false reached choice reaches runtime legal segments input bytes (suc turns) =
    let target : FlatSeen = flat_run (flat_slice false) choice input 2 in
    let work = divides_work choice input in
    let so = ended (suc turns) 2 200 target.read (error_line (codes "200")) (mean (slice b false) input (suc turns)) target.seen target.work (divides b input turns) (flat_divides choice input) (omega (arith, work)) in
    (2, so.0, so.1)

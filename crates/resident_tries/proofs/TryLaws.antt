-- What passes the tests is a framed run.
use Rattle.std.proofs.Common.{◌≡◌, ◌≢◌, ℕ, zero, suc, ◌+◌, ◌<◌, ◌≤◌, ◌==◌, nat_eq, nat_lt, nat_le, ◌&&◌, not, Bool, true, false, List, [], ◌∷◌, ◌++◌, length, Option, Some, None, is_some, Ok, Err, refl, ap, ◌∙◌, subst, arith, eq-eqb, eqb-true}
use Rattle.std.specs.Prelude.{drop, if◌then◌else◌}
use Rattle.std.proofs.lemmas.Bool.{ltb-true, leb-true}
use Rattle.std.specs.List.{AllByRecursion}
use Rattle.x86_table.specs.declared.instr.Instr.{Instr}
use Rattle.x86_table.specs.Spelling.{spelling}
use Rattle.cpu_8086.specs.Memory.{address, next_offset}
use Rattle.frame_links.specs.Links.{Link, link_word, room_of, room_before}
use Rattle.resident_machine.specs.Program.{Program, code_of}
use Rattle.resident_machine.specs.Cells.{Cells, is_free, known_word, below}
use Rattle.resident_machine.specs.Effect.{Outcome, effect_of}
use Rattle.resident_machine.specs.Framed.{AreLinks, live_places, places_of, MissesWord, IsSpare, IsFramed, FramedAfter}
use Rattle.resident_machine.specs.Run.{StandsAt, Goes, RunsFramed}
use Rattle.resident_machine.specs.State.{ResidentStatus, Running, Ended, Stopped, ResidentState, Service, NoService, AtCall, AtReturn, AtClear}
use Rattle.resident_tries.specs.Tries.{Move, rest_after, stands_in, if_some, is_same, are_links, are_same, misses, is_spare, each_below, is_framed, is_framed_after, is_running, came_to, tried, or_other, and_go, followed, test}

-- ## The instruction stands there

rest_is : (xs ys rest : List ℕ) → rest_after xs ys ≡ Some rest → ys ≡ xs ++ rest
rest_is [] ys rest e = cc
rest_is (x ∷ xs) [] rest e = absurd (cc)
rest_is (x ∷ xs) (y ∷ ys) rest e = by (nat_eq y x) refl e (rest_is xs ys rest)
  where
    by : (b : Bool) → nat_eq y x ≡ b → (if b then rest_after xs ys else None) ≡ Some rest → (rest_after xs ys ≡ Some rest → ys ≡ xs ++ rest) → y ∷ ys ≡ x ∷ (xs ++ rest)
    by true same e more = let head = eqb-true y x same in let tail = more e in cc
    by false same e more = absurd (cc)

some_of : (o : Option (List ℕ)) → is_some o ≡ true → (rest : List ℕ) × (o ≡ Some rest)
some_of None e = absurd (cc)
some_of (Some rest) e = (rest, refl)

stands_is : (p : Program) (r : ResidentState) (i : Instr) → stands_in (code_of p r.cs) r.registers.ip i ≡ true → StandsAt p r i
stands_is p r i e = by (code_of p r.cs) refl e
  where
    by : (o : Option (List ℕ)) → code_of p r.cs ≡ o → stands_in o r.registers.ip i ≡ true → StandsAt p r i
    by None named e = absurd (cc)
    by (Some code) named e =
        let found = some_of (rest_after (spelling i) (drop r.registers.ip code)) e in
        record { code = code; named = named; rest = found.0; spelled = rest_is (spelling i) (drop r.registers.ip code) found.0 found.1 }

-- ## The state is framed

pub both_true : (a b : Bool) → (a && b) ≡ true → (a ≡ true) × (b ≡ true)
both_true true b e = (refl, e)
both_true false b e = absurd (cc)

is_same_is : (a b : Bool) → is_same a b ≡ true → a ≡ b
is_same_is true true e = refl
is_same_is true false e = absurd (cc)
is_same_is false true e = absurd (cc)
is_same_is false false e = refl

some_next : (o : Option ℕ) (f : ℕ → Bool) → if_some o f ≡ true → (n : ℕ) × (o ≡ Some n) × (f n ≡ true)
some_next None f e = absurd (cc)
some_next (Some n) f e = (n, refl, e)

lt_is : (m n : ℕ) → nat_lt m n ≡ true → m < n
lt_is m n e = ltb-true m n e

le_is : (m n : ℕ) → nat_le m n ≡ true → m ≤ n
le_is m n e = leb-true m n e

links_are : (marked : Bool) (cells : Cells) (ss at : ℕ) (links : List Link) → are_links marked cells ss at links ≡ true → AreLinks marked cells ss at links
links_are marked cells ss at [] e = eqb-true at 0 e
links_are marked cells ss at (link ∷ links) e =
    let one = both_true (at == link.at) _ e in
    let two = both_true (nat_lt 0 link.at) _ one.1 in
    let three = both_true (nat_le (link.at + room_of link.far) (room_before links)) _ two.1 in
    let word = some_next (known_word cells ss link.at) (λ word. is_same link.far (link_word marked word).far && are_links marked cells ss (link_word marked word).next links) three.1 in
    let four = both_true (is_same link.far (link_word marked word.0).far) _ word.2 in (
      eqb-true at link.at one.0,
      word.0,
      record {
        positive = lt_is 0 link.at two.0;
        known = word.1;
        far = is_same_is link.far (link_word marked word.0).far four.0;
        room = le_is (link.at + room_of link.far) (room_before links) three.0;
      },
      links_are marked cells ss (link_word marked word.0).next links four.1,
    )

same_are : (xs ys : List ℕ) → are_same xs ys ≡ true → xs ≡ ys
same_are [] [] e = refl
same_are [] (y ∷ ys) e = absurd (cc)
same_are (x ∷ xs) [] e = absurd (cc)
same_are (x ∷ xs) (y ∷ ys) e =
    let both = both_true (x == y) (are_same xs ys) e in
    let head = eqb-true x y both.0 in
    let tail = same_are xs ys both.1 in
    cc

not_same : (a b : ℕ) → not (a == b) ≡ true → a ≢ b
not_same a b e same = let z = eq-eqb a b same in absurd (cc)

misses_are : (place ss : ℕ) (links : List Link) → misses place ss links ≡ true → AllByRecursion (λ (link : Link). MissesWord place ss link.at) links
misses_are place ss [] e = tt
misses_are place ss (link ∷ links) e =
    let one = both_true (not (place == address ss link.at)) _ e in
    let two = both_true (not (place == address ss (next_offset link.at))) _ one.1 in
    (record { low = not_same place (address ss link.at) one.0; high = not_same place (address ss (next_offset link.at)) two.0 }, misses_are place ss links two.1)

spare_is : (p : Program) (r : ResidentState) (links : List Link) (place : ℕ) → is_spare p r links place ≡ true → IsSpare p r links place
spare_is p r links place e =
    let one = both_true (is_free (r.cells place)) _ e in
    let two = both_true (not (place == p.installed)) _ one.1 in
    record { free = one.0; flag = not_same place p.installed two.0; link = misses_are place r.registers.ss links two.1 }

pub below_each : (n : ℕ) (f : ℕ → Bool) → each_below n f ≡ true → (k : ℕ) → k < n → f k ≡ true
below_each zero f e k lt = absurd (omega arith)
below_each (suc n) f e k lt = by (nat_eq k n) refl (below_each n f (both_true (f n) (each_below n f) e).1 k)
  where
    by : (b : Bool) → nat_eq k n ≡ b → (k < n → f k ≡ true) → f k ≡ true
    by true same more = ap f (eqb-true k n same) ∙ (both_true (f n) (each_below n f) e).0
    by false apart more = more (let ne : k ≢ n = λ same. (let z = eq-eqb k n same in absurd (cc)) in omega arith)

framed_is : (p : Program) (pending : Bool) (r : ResidentState) (links : List Link) → is_framed p pending r links ≡ true → IsFramed p pending r
framed_is p pending r links e =
    let one = both_true (are_links p.marked r.cells r.registers.ss r.registers.bp links) _ e in
    let two = both_true (are_same (places_of r.records) (live_places pending r.registers.sp links)) _ one.1 in
    let three = both_true (nat_le (r.registers.sp + 4) 65536) _ two.1 in
    record {
      links = links;
      chain = links_are p.marked r.cells r.registers.ss r.registers.bp links one.0;
      places = same_are _ _ two.0;
      pending_room = λ _. le_is (r.registers.sp + 4) 65536 three.0;
      spare = λ k lt. spare_is p r links (below r.registers.ss r.registers.sp k) (below_each 64 (λ k. is_spare p r links (below r.registers.ss r.registers.sp k)) three.1 k lt);
    }

framed_after_is : (p : Program) (service : Service) (r : ResidentState) (links : List Link) → is_framed_after p service r links ≡ true → FramedAfter p service r
framed_after_is p NoService r links e = tt
framed_after_is p AtCall r links e = framed_is p true r links e
framed_after_is p AtReturn r links e = framed_is p false r links e
framed_after_is p AtClear r links e = framed_is p true r links e

-- ## A step, and a list of them

running_is : (s : ResidentStatus) → is_running s ≡ true → s ≡ Running
running_is Running e = refl
running_is (Ended code) e = absurd (cc)
running_is (Stopped segment offset why) e = absurd (cc)

-- a step that was tried
record Tried (p : Program) (r t : ResidentState) : Type 0 where
  service : Service
  goes : Goes p r t service
  framed : FramedAfter p service t

some_if : (b : Bool) (o : Option ResidentState) (t : ResidentState) → (if b then o else None) ≡ Some t → (b ≡ true) × (o ≡ Some t)
some_if true o t e = (refl, e)
some_if false o t e = absurd (cc)

some_same : (x y : ResidentState) → Some x ≡ Some y → x ≡ y
some_same x y e = ap (λ o. or_other o x) e

came_is : (p : Program) (links : List Link) (o : Outcome) (t : ResidentState) → came_to p links o ≡ Some t → (service : Service) × (o ≡ Ok (t, service)) × FramedAfter p service t
came_is p links (Ok w) t e =
    let found = some_if (is_framed_after p w.1 w.0 links) (Some w.0) t e in
    let is : w.0 ≡ t = some_same w.0 t found.1 in
    (w.1, ap (λ (z : ResidentState). Ok (z, w.1)) is, subst (λ z. FramedAfter p w.1 z) is (framed_after_is p w.1 w.0 links found.0))
came_is p links (Err way) t e = absurd (cc)

tried_is : (p : Program) (m : Move) (r t : ResidentState) → tried p m r ≡ Some t → Tried p r t
tried_is p m r t e =
    let tests = some_if (is_running r.status && stands_in (code_of p r.cs) r.registers.ip m.instruction) (came_to p m.links (effect_of p r m.instruction)) t e in
    let both = both_true (is_running r.status) _ tests.0 in
    let came = came_is p m.links (effect_of p r m.instruction) t tests.1 in
    record {
      service = came.0;
      goes = record { running = running_is r.status both.0; instruction = m.instruction; stands = stands_is p r m.instruction both.1; result = came.1 };
      framed = came.2;
    }

went : (o : Option ResidentState) (f : ResidentState → Option ResidentState) (t : ResidentState) → and_go o f ≡ Some t → (middle : ResidentState) × (o ≡ Some middle) × (f middle ≡ Some t)
went None f t e = absurd (cc)
went (Some r) f t e = (r, refl, e)

pub followed_runs : (p : Program) (ms : List Move) (r t : ResidentState) → followed p ms r ≡ Some t → RunsFramed p (length ms) r t
followed_runs p [] r t e = some_same r t e
followed_runs p (m ∷ ms) r t e =
    let one = went (tried p m r) (λ t. followed p ms t) t e in
    let step = tried_is p m r one.0 one.1 in
    (one.0, step.service, step.goes, step.framed, followed_runs p ms one.0 t one.2)

-- a state of which something holds was come to
pub tested : (f : ResidentState → Bool) (o : Option ResidentState) → test f o ≡ true → (t : ResidentState) × (o ≡ Some t) × (f t ≡ true)
tested f None e = absurd (cc)
tested f (Some t) e = (t, refl, e)

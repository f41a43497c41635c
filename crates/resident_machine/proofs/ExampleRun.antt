-- A run by computation: a list of instructions is followed from a state, and each step tested.
use Rattle.std.proofs.Common.{◌≡◌, ◌≢◌, ℕ, zero, suc, ◌+◌, ◌<◌, ◌≤◌, ◌==◌, nat_eq, nat_lt, nat_le, ◌&&◌, not, Bool, true, false, List, [], ◌∷◌, ◌++◌, length, Option, Some, None, is_some, Ok, Err, refl, ap, ◌∙◌, subst, arith, eq-eqb, eqb-true}
use Rattle.std.specs.Prelude.{drop, if◌then◌else◌}
use Rattle.std.proofs.lemmas.Bool.{ltb-true, leb-true}
use Rattle.std.specs.List.{AllByRecursion}
use Rattle.x86_table.specs.declared.instr.Instr.{Instr}
use Rattle.x86_table.specs.declared.instr.Instr.TheVariants as instr
use Rattle.x86_table.specs.declared.instr.Pair.TheVariants as pair
use Rattle.x86_table.specs.declared.operand.SegReg.TheVariants as seg
use Rattle.x86_table.specs.declared.operand.WordOperand.TheVariants as word_rm
use Rattle.x86_table.specs.declared.operand.WordReg.TheVariants as word
use Rattle.x86_table.specs.Spelling.{word_bytes, word_modrm, pair_form, pair_body, pair_override, spelling}
use Rattle.cpu_8086.specs.Access.{word_then}
use Rattle.cpu_8086.specs.Arithmetic.{sum_of, difference_of}
use Rattle.cpu_8086.specs.Effect.{act}
use Rattle.cpu_8086.specs.Memory.{address, next_offset}
use Rattle.frame_links.specs.Links.{Link, link_word, room_of, room_before}
use Rattle.resident_machine.specs.Program.{Segment, Image, Overlay, Program, code_of}
use Rattle.resident_machine.specs.Cells.{Cells, is_free, known_word, below, with_lost}
use Rattle.resident_machine.specs.Effect.{Outcome, effect_of}
use Rattle.resident_machine.specs.Example.{example, example_start}
use Rattle.resident_machine.specs.Framed.{AreLinks, live_places, places_of, MissesWord, IsSpare, IsFramed, FramedAfter}
use Rattle.resident_machine.specs.Run.{StandsAt, Goes, RunsFramed}
use Rattle.resident_machine.specs.State.{Record, ResidentStatus, Running, Ended, Stopped, ResidentState, Service, NoService, AtCall, AtReturn, AtClear}

-- an instruction to try, and the links that BP leads to where a service may follow
record Move : Type 0 where
  instruction : Instr
  links : List Link

-- ## The instruction stands there

abbrev rest_after : List ℕ → List ℕ → Option (List ℕ)
rest_after [] ys = Some ys
rest_after (x ∷ xs) [] = None
rest_after (x ∷ xs) (y ∷ ys) = if y == x then rest_after xs ys else None

rest_is : (xs ys rest : List ℕ) → rest_after xs ys ≡ Some rest → ys ≡ xs ++ rest
rest_is [] ys rest e = cc
rest_is (x ∷ xs) [] rest e = absurd (cc)
rest_is (x ∷ xs) (y ∷ ys) rest e = by (nat_eq y x) refl e (rest_is xs ys rest)
  where
    by : (b : Bool) → nat_eq y x ≡ b → (if b then rest_after xs ys else None) ≡ Some rest → (rest_after xs ys ≡ Some rest → ys ≡ xs ++ rest) → y ∷ ys ≡ x ∷ (xs ++ rest)
    by true same e more = let head = eqb-true y x same in let tail = more e in cc
    by false same e more = absurd (cc)

abbrev stands_in : Option (List ℕ) → ℕ → Instr → Bool
stands_in None ip i = false
stands_in (Some code) ip i = is_some (rest_after (spelling i) (drop ip code))

some_of : (o : Option (List ℕ)) → is_some o ≡ true → (rest : List ℕ) × (o ≡ Some rest)
some_of None e = absurd (cc)
some_of (Some rest) e = (rest, refl)

stands_is : (p : Program) (r : ResidentState) (i : Instr) → stands_in (code_of p r.cs) r.registers.ip i ≡ true → StandsAt p r i
stands_is p r i e = by (code_of p r.cs) refl e
  where
    by : (o : Option (List ℕ)) → code_of p r.cs ≡ o → stands_in o r.registers.ip i ≡ true → StandsAt p r i
    by None named e = absurd (cc)
    by (Some code) named e =
        let found = some_of (rest_after (spelling i) (drop r.registers.ip code)) e in
        record { code = code; named = named; rest = found.0; spelled = rest_is (spelling i) (drop r.registers.ip code) found.0 found.1 }

-- ## The state is framed

both_true : (a b : Bool) → (a && b) ≡ true → (a ≡ true) × (b ≡ true)
both_true true b e = (refl, e)
both_true false b e = absurd (cc)

abbrev if_some : Option ℕ → (ℕ → Bool) → Bool
if_some None f = false
if_some (Some n) f = f n

abbrev is_same : Bool → Bool → Bool
is_same true b = b
is_same false b = not b

is_same_is : (a b : Bool) → is_same a b ≡ true → a ≡ b
is_same_is true true e = refl
is_same_is true false e = absurd (cc)
is_same_is false true e = absurd (cc)
is_same_is false false e = refl

abbrev are_links : Bool → Cells → ℕ → ℕ → List Link → Bool
are_links marked cells ss at [] = at == 0
are_links marked cells ss at (link ∷ links) =
    (at == link.at) && (nat_lt 0 link.at && (nat_le (link.at + room_of link.far) (room_before links)
    && if_some (known_word cells ss link.at) (λ word. is_same link.far (link_word marked word).far && are_links marked cells ss (link_word marked word).next links)))

some_next : (o : Option ℕ) (f : ℕ → Bool) → if_some o f ≡ true → (n : ℕ) × (o ≡ Some n) × (f n ≡ true)
some_next None f e = absurd (cc)
some_next (Some n) f e = (n, refl, e)

lt_is : (m n : ℕ) → nat_lt m n ≡ true → m < n
lt_is m n e = ltb-true m n e

le_is : (m n : ℕ) → nat_le m n ≡ true → m ≤ n
le_is m n e = leb-true m n e

links_are : (marked : Bool) (cells : Cells) (ss at : ℕ) (links : List Link) → are_links marked cells ss at links ≡ true → AreLinks marked cells ss at links
links_are marked cells ss at [] e = eqb-true at 0 e
links_are marked cells ss at (link ∷ links) e =
    let one = both_true (at == link.at) _ e in
    let two = both_true (nat_lt 0 link.at) _ one.1 in
    let three = both_true (nat_le (link.at + room_of link.far) (room_before links)) _ two.1 in
    let word = some_next (known_word cells ss link.at) (λ word. is_same link.far (link_word marked word).far && are_links marked cells ss (link_word marked word).next links) three.1 in
    let four = both_true (is_same link.far (link_word marked word.0).far) _ word.2 in (
      eqb-true at link.at one.0,
      word.0,
      record {
        positive = lt_is 0 link.at two.0;
        known = word.1;
        far = is_same_is link.far (link_word marked word.0).far four.0;
        room = le_is (link.at + room_of link.far) (room_before links) three.0;
      },
      links_are marked cells ss (link_word marked word.0).next links four.1,
    )

abbrev are_same : List ℕ → List ℕ → Bool
are_same [] [] = true
are_same [] (y ∷ ys) = false
are_same (x ∷ xs) [] = false
are_same (x ∷ xs) (y ∷ ys) = (x == y) && are_same xs ys

same_are : (xs ys : List ℕ) → are_same xs ys ≡ true → xs ≡ ys
same_are [] [] e = refl
same_are [] (y ∷ ys) e = absurd (cc)
same_are (x ∷ xs) [] e = absurd (cc)
same_are (x ∷ xs) (y ∷ ys) e =
    let both = both_true (x == y) (are_same xs ys) e in
    let head = eqb-true x y both.0 in
    let tail = same_are xs ys both.1 in
    cc

abbrev misses : ℕ → ℕ → List Link → Bool
misses place ss [] = true
misses place ss (link ∷ links) = not (place == address ss link.at) && (not (place == address ss (next_offset link.at)) && misses place ss links)

not_same : (a b : ℕ) → not (a == b) ≡ true → a ≢ b
not_same a b e same = let z = eq-eqb a b same in absurd (cc)

misses_are : (place ss : ℕ) (links : List Link) → misses place ss links ≡ true → AllByRecursion (λ (link : Link). MissesWord place ss link.at) links
misses_are place ss [] e = tt
misses_are place ss (link ∷ links) e =
    let one = both_true (not (place == address ss link.at)) _ e in
    let two = both_true (not (place == address ss (next_offset link.at))) _ one.1 in
    (record { low = not_same place (address ss link.at) one.0; high = not_same place (address ss (next_offset link.at)) two.0 }, misses_are place ss links two.1)

abbrev is_spare : Program → ResidentState → List Link → ℕ → Bool
is_spare p r links place = is_free (r.cells place) && (not (place == p.installed) && misses place r.registers.ss links)

spare_is : (p : Program) (r : ResidentState) (links : List Link) (place : ℕ) → is_spare p r links place ≡ true → IsSpare p r links place
spare_is p r links place e =
    let one = both_true (is_free (r.cells place)) _ e in
    let two = both_true (not (place == p.installed)) _ one.1 in
    record { free = one.0; flag = not_same place p.installed two.0; link = misses_are place r.registers.ss links two.1 }

abbrev each_below : ℕ → (ℕ → Bool) → Bool
each_below zero f = true
each_below (suc n) f = f n && each_below n f

below_each : (n : ℕ) (f : ℕ → Bool) → each_below n f ≡ true → (k : ℕ) → k < n → f k ≡ true
below_each zero f e k lt = absurd (omega arith)
below_each (suc n) f e k lt = by (nat_eq k n) refl (below_each n f (both_true (f n) (each_below n f) e).1 k)
  where
    by : (b : Bool) → nat_eq k n ≡ b → (k < n → f k ≡ true) → f k ≡ true
    by true same more = ap f (eqb-true k n same) ∙ (both_true (f n) (each_below n f) e).0
    by false apart more = more (let ne : k ≢ n = λ same. (let z = eq-eqb k n same in absurd (cc)) in omega arith)

abbrev is_framed : Program → Bool → ResidentState → List Link → Bool
is_framed p pending r links =
    are_links p.marked r.cells r.registers.ss r.registers.bp links
    && (are_same (places_of r.records) (live_places pending r.registers.sp links)
    && (nat_le (r.registers.sp + 4) 65536
    && each_below 64 (λ k. is_spare p r links (below r.registers.ss r.registers.sp k))))

framed_is : (p : Program) (pending : Bool) (r : ResidentState) (links : List Link) → is_framed p pending r links ≡ true → IsFramed p pending r
framed_is p pending r links e =
    let one = both_true (are_links p.marked r.cells r.registers.ss r.registers.bp links) _ e in
    let two = both_true (are_same (places_of r.records) (live_places pending r.registers.sp links)) _ one.1 in
    let three = both_true (nat_le (r.registers.sp + 4) 65536) _ two.1 in
    record {
      links = links;
      chain = links_are p.marked r.cells r.registers.ss r.registers.bp links one.0;
      places = same_are _ _ two.0;
      pending_room = λ _. le_is (r.registers.sp + 4) 65536 three.0;
      spare = λ k lt. spare_is p r links (below r.registers.ss r.registers.sp k) (below_each 64 (λ k. is_spare p r links (below r.registers.ss r.registers.sp k)) three.1 k lt);
    }

abbrev is_framed_after : Program → Service → ResidentState → List Link → Bool
is_framed_after p NoService r links = true
is_framed_after p AtCall r links = is_framed p true r links
is_framed_after p AtReturn r links = is_framed p false r links
is_framed_after p AtClear r links = is_framed p true r links

framed_after_is : (p : Program) (service : Service) (r : ResidentState) (links : List Link) → is_framed_after p service r links ≡ true → FramedAfter p service r
framed_after_is p NoService r links e = tt
framed_after_is p AtCall r links e = framed_is p true r links e
framed_after_is p AtReturn r links e = framed_is p false r links e
framed_after_is p AtClear r links e = framed_is p true r links e

-- ## A step, and a list of them

abbrev is_running : ResidentStatus → Bool
is_running Running = true
is_running (Ended code) = false
is_running (Stopped segment offset why) = false

running_is : (s : ResidentStatus) → is_running s ≡ true → s ≡ Running
running_is Running e = refl
running_is (Ended code) e = absurd (cc)
running_is (Stopped segment offset why) e = absurd (cc)

abbrev came_to : Program → List Link → Outcome → Option ResidentState
came_to p links (Ok w) = if is_framed_after p w.1 w.0 links then Some w.0 else None
came_to p links (Err way) = None

abbrev tried : Program → Move → ResidentState → Option ResidentState
tried p m r =
    if is_running r.status && stands_in (code_of p r.cs) r.registers.ip m.instruction then came_to p m.links (effect_of p r m.instruction) else None

-- a step that was tried
record Tried (p : Program) (r t : ResidentState) : Type 0 where
  service : Service
  goes : Goes p r t service
  framed : FramedAfter p service t

some_if : (b : Bool) (o : Option ResidentState) (t : ResidentState) → (if b then o else None) ≡ Some t → (b ≡ true) × (o ≡ Some t)
some_if true o t e = (refl, e)
some_if false o t e = absurd (cc)

abbrev or_other : Option ResidentState → ResidentState → ResidentState
or_other None other = other
or_other (Some x) other = x

some_same : (x y : ResidentState) → Some x ≡ Some y → x ≡ y
some_same x y e = ap (λ o. or_other o x) e

came_is : (p : Program) (links : List Link) (o : Outcome) (t : ResidentState) → came_to p links o ≡ Some t → (service : Service) × (o ≡ Ok (t, service)) × FramedAfter p service t
came_is p links (Ok w) t e =
    let found = some_if (is_framed_after p w.1 w.0 links) (Some w.0) t e in
    let is : w.0 ≡ t = some_same w.0 t found.1 in
    (w.1, ap (λ (z : ResidentState). Ok (z, w.1)) is, subst (λ z. FramedAfter p w.1 z) is (framed_after_is p w.1 w.0 links found.0))
came_is p links (Err way) t e = absurd (cc)

tried_is : (p : Program) (m : Move) (r t : ResidentState) → tried p m r ≡ Some t → Tried p r t
tried_is p m r t e =
    let tests = some_if (is_running r.status && stands_in (code_of p r.cs) r.registers.ip m.instruction) (came_to p m.links (effect_of p r m.instruction)) t e in
    let both = both_true (is_running r.status) _ tests.0 in
    let came = came_is p m.links (effect_of p r m.instruction) t tests.1 in
    record {
      service = came.0;
      goes = record { running = running_is r.status both.0; instruction = m.instruction; stands = stands_is p r m.instruction both.1; result = came.1 };
      framed = came.2;
    }

abbrev and_go : Option ResidentState → (ResidentState → Option ResidentState) → Option ResidentState
and_go None f = None
and_go (Some r) f = f r

abbrev followed : Program → List Move → ResidentState → Option ResidentState
followed p [] r = Some r
followed p (m ∷ ms) r = and_go (tried p m r) (λ t. followed p ms t)

went : (o : Option ResidentState) (f : ResidentState → Option ResidentState) (t : ResidentState) → and_go o f ≡ Some t → (middle : ResidentState) × (o ≡ Some middle) × (f middle ≡ Some t)
went None f t e = absurd (cc)
went (Some r) f t e = (r, refl, e)

followed_runs : (p : Program) (ms : List Move) (r t : ResidentState) → followed p ms r ≡ Some t → RunsFramed p (length ms) r t
followed_runs p [] r t e = some_same r t e
followed_runs p (m ∷ ms) r t e =
    let one = went (tried p m r) (λ t. followed p ms t) t e in
    let step = tried_is p m r one.0 one.1 in
    (one.0, step.service, step.goes, step.framed, followed_runs p ms one.0 t one.2)

-- ## The example

abbrev move : Instr → Move
move i = record { instruction = i; links = [] }

abbrev framed_move : Instr → List Link → Move
framed_move i links = record { instruction = i; links = links }

abbrev push_bp : Move
push_bp = move (instr.Push word.Bp)

abbrev pop_bp : Move
pop_bp = move (instr.Pop word.Bp)

abbrev move_bp : Move
move_bp = move (instr.Mov (pair.WordRm word.Bp (word_rm.Reg word.Sp)))

-- the first lines of a far routine, and its last ones but the return
abbrev begun : List Move → List Move
begun moves = move (instr.Inc word.Bp) ∷ push_bp ∷ move_bp ∷ moves

abbrev left : List Move → List Move
left moves = pop_bp ∷ move (instr.Dec word.Bp) ∷ moves

abbrev moves : List Move
moves =
    move (instr.CallFar 32 256) ∷ begun (move (instr.CallNear 7) ∷ push_bp ∷ move_bp
    ∷ move (instr.CallFar 0 128) ∷ begun (left (framed_move instr.RetFar (record { at = 502; far = false } ∷ record { at = 506; far = true } ∷ [])
    ∷ pop_bp ∷ move instr.Ret
    ∷ move (instr.PushSeg seg.Cs) ∷ move (instr.CallNear 13) ∷ begun (left (framed_move instr.RetFar (record { at = 506; far = true } ∷ [])
    ∷ left (move instr.RetFar ∷ move (instr.MovWord word.Ax 0x4C00) ∷ move (instr.Int 33) ∷ []))))))

abbrev is_zero_end : ResidentStatus → Bool
is_zero_end Running = false
is_zero_end (Ended code) = code == 0
is_zero_end (Stopped segment offset why) = false

zero_end_is : (s : ResidentStatus) → is_zero_end s ≡ true → s ≡ Ended 0
zero_end_is Running e = absurd (cc)
zero_end_is (Ended code) e = ap Ended (eqb-true code 0 e)
zero_end_is (Stopped segment offset why) e = absurd (cc)

abbrev is_none_left : List Record → Bool
is_none_left [] = true
is_none_left (x ∷ others) = false

none_left_is : (records : List Record) → is_none_left records ≡ true → records ≡ []
none_left_is [] e = refl
none_left_is (x ∷ others) e = absurd (cc)

abbrev is_routine : Segment → Bool
is_routine (Image number) = number == 128
is_routine (Overlay number) = false

routine_is : (s : Segment) → is_routine s ≡ true → s ≡ Image 128
routine_is (Image number) e = ap Image (eqb-true number 128 e)
routine_is (Overlay number) e = absurd (cc)

abbrev is_over : ResidentState → Bool
is_over t = is_zero_end t.status && is_none_left t.records

abbrev test : (ResidentState → Bool) → Option ResidentState → Bool
test f None = false
test f (Some t) = f t

tested : (f : ResidentState → Bool) (o : Option ResidentState) → test f o ≡ true → (t : ResidentState) × (o ≡ Some t) × (f t ≡ true)
tested f None e = absurd (cc)
tested f (Some t) e = (t, refl, e)

example_ends : test is_over (followed example moves (example_start 1)) ≡ true
unfolding effect_of act sum_of difference_of with_lost word_bytes word_then word_modrm pair_form pair_body pair_override
example_ends = refl

over_is : (t : ResidentState) → is_over t ≡ true → (t.status ≡ Ended 0) × (t.records ≡ [])
over_is t e = let both = both_true (is_zero_end t.status) (is_none_left t.records) e in (zero_end_is t.status both.0, none_left_is t.records both.1)

pub example_runs : (t : ResidentState) × RunsFramed example 29 (example_start 1) t × (t.status ≡ Ended 0) × (t.records ≡ [])
example_runs =
    let found = tested is_over (followed example moves (example_start 1)) example_ends in
    let end = over_is found.0 found.2 in
    (found.0, followed_runs example moves (example_start 1) found.0 found.1, end.0, end.1)

-- with the installed flag 0 the call comes to the error routine
abbrev is_refused : ResidentState → Bool
is_refused t = is_routine t.cs && (t.registers.ax == 208)

refused_ends : test is_refused (followed example (move (instr.CallFar 32 256) ∷ []) (example_start 0)) ≡ true
unfolding effect_of act with_lost word_bytes word_then word_modrm pair_form pair_body pair_override
refused_ends = refl

pub example_refused : (t : ResidentState) × RunsFramed example 1 (example_start 0) t × (t.cs ≡ Image 0x80) × (t.registers.ax ≡ 208)
example_refused =
    let found = tested is_refused (followed example (move (instr.CallFar 32 256) ∷ []) (example_start 0)) refused_ends in
    let both = both_true (is_routine found.0.cs) (found.0.registers.ax == 208) found.2 in
    (found.0, followed_runs example (move (instr.CallFar 32 256) ∷ []) (example_start 0) found.0 found.1, routine_is found.0.cs both.0, eqb-true found.0.registers.ax 208 both.1)

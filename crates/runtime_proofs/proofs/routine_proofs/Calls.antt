-- What a call does, from what the body of its routine comes to.
use Rattle.std.proofs.Common.{◌≡◌, ℕ, zero, suc, ◌+◌, ◌-◌, ◌*◌, ◌≤◌, ◌<◌, ◌⊎◌, inl, inr, Bool, true, false, List, [], ◌∷◌, ◌++◌, length, Option, Some, None, Ok, Err, ℤ, refl, sym, ap, subst, ◌∙◌, arith, eq-eqb}
use Rattle.std.specs.Prelude.{if◌then◌else◌, ◌==◌, ◌&&◌, ◌%◌, not, nat_lt, Result}
use Rattle.std.proofs.lemmas.Bool.{le-ltb}
use Rattle.common_values.specs.behaviour.Seen.{Ended, Going}
use Rattle.common_values.specs.integers.Words.{low_byte, high_byte}
use Rattle.flat_code.specs.declared.tree.Address.{Address}
use Rattle.flat_code.specs.declared.tree.Address.TheVariants.{Global, Local, Outer, Through}
use Rattle.flat_code.specs.declared.tree.FlatResult.{FlatResult}
use Rattle.flat_code.specs.declared.memory.Cell.TheVariants.{Known, Outside}
use Rattle.flat_code.specs.declared.memory.Place.{Place}
use Rattle.flat_code.specs.declared.memory.Trap.TheVariants.{Bad}
use Rattle.flat_code.specs.Memory.{Cells, Found, ◌>>=◌, address_of, byte_in, byte_at, bytes_at, word_bytes}
use Rattle.flat_code.specs.Program.{Key, Routine, UnitCode, FlatProgram, Choice}
use Rattle.flat_code.specs.Meaning.{Frame, State, Outcome, Over, spent, error_text, stack_place, with_cells, link_bytes, activation_bytes, stack_top, is_too_deep, frame_of, closed, result_bytes, ended, finished, activated, tested, admitted, called, run}
use Rattle.flat_code.specs.Legal.{StackFits}
use Rattle.flat_code.specs.Gives.{with_turns, IsBelow, KeepsRest, Ends, Raises, AreWords, Computes}
use Rattle.flat_code.proofs.Shut.{region_below, region_above}
use Rattle.flat_code.proofs.Steps.{called-entered}
use Rattle.flat_code.proofs.Bodies.{ComesTo, next-comes, returned-comes, Stands, inside, call-comes}
use Rattle.flat_code.proofs.Stack.{HasWord, words-read, LiesAt, byte-lies, not_below, closed-keeps}
use Rattle.runtime_proofs.specs.routine_proofs.Activation.{Activation, slot_no, index_of, is_index, word_address, Shows, IsSeen, IsPlaced}
use Rattle.runtime_proofs.specs.routine_proofs.Straight.{held, Exit, Onward, Leaving, Returning, Failing}
use Rattle.runtime_proofs.specs.routine_proofs.Comes.{outcome_of, Comes}
use Rattle.runtime_proofs.specs.routine_proofs.Entry.{memory_without, entered, two_words, bytes_from, result_at, result_seen, IsLeft}
use Rattle.runtime_proofs.specs.routine_proofs.Specifications.{IsHeld, EndsRoutine, Replies}
use Rattle.runtime_proofs.proofs.routine_proofs.Sight.{bind-ok, if-ok, slot-lies, held-word}
use Rattle.runtime_proofs.proofs.routine_proofs.Entry.{activation-is, entered-seen}

-- ---- a call whatever its body comes to

if-true : (b : Bool) (x y : Outcome) → b ≡ true → (if b then x else y) ≡ x
if-true b x y e = ap (λ b. if b then x else y) e

if-false : (b : Bool) (x y : Outcome) → b ≡ false → (if b then x else y) ≡ y
if-false b x y e = ap (λ b. if b then x else y) e

call-is : (program : FlatProgram) (choice : Choice) (key : Key) (unit : UnitCode) (r : Routine) (args : List ℕ) (wanted : Option FlatResult) (f : Frame) (s : State) → Stands program key unit r args f →
    called program choice (run program choice) args wanted f s key ≡ finished (run program choice r.body (frame_of key.unit unit r f) (inside choice r args f s)) (ended choice r (frame_of key.unit unit r f) f wanted)
call-is program choice key unit r args wanted f s stands =
    let again = run program choice in
    let g = frame_of key.unit unit r f in
    let after : State → Outcome = ended choice r g f wanted in
    let shallow : is_too_deep program r f.sum ≡ false = ap (λ n. nat_lt 0 n && nat_lt (stack_top program) (f.sum + n + 512)) stands.untested in
    called-entered program choice again args wanted f s key unit r stands.unit_is stands.routine_is
    ∙ if-true (2 * length args == r.arguments) (admitted program choice again key.unit unit r args wanted f s) _ (eq-eqb (2 * length args) r.arguments stands.fits)
    ∙ if-false (program.overlaid key.unit && not s.flag) _ (tested program choice again key.unit unit r args wanted f s) (ap (λ b. b && not s.flag) stands.resident)
    ∙ if-false (is_too_deep program r f.sum) _ (activated choice again key.unit unit r args wanted f s) shallow
    ∙ if-false (nat_lt f.sp (activation_bytes r)) _ (finished (again r.body g (inside choice r args f s)) after) (le-ltb f.sp (activation_bytes r) stands.room)

raised-finishes : (turns code : ℕ) (s : State) (go : State → Outcome) → s.turns ≡ turns → finished (spent turns s (λ s. Over (Ended (code % 256)) (record s { err = s.err ++ error_text code }))) go ≡ spent turns s (λ s. Over (Ended (code % 256)) (record s { err = s.err ++ error_text code }))
raised-finishes zero code s go e = refl
raised-finishes (suc turns) code s go e = refl

-- ---- the result

byte-known : (m : Cells) (p : Place) (i a b : ℕ) → address_of p i ≡ a → m a ≡ Known b → byte_at m p i ≡ Ok b
byte-known m p i a b e k = ap byte_in (ap m e ∙ k)

word-bytes-read : (m : Cells) (p : Place) (a v : ℕ) → address_of p 0 ≡ a → address_of p 1 ≡ a + 1 → HasWord m a v → bytes_at m p 0 2 ≡ Ok (word_bytes v)
word-bytes-read m p a v e g has =
    let low = byte-known m p 0 a (low_byte v) e has.low in
    let high = byte-known m p 1 (a + 1) (high_byte v) g has.high in
    ap (λ (x : Found ℕ). x >>= λ byte. bytes_at m p 1 1 >>= λ bytes. Ok (byte ∷ bytes)) low
    ∙ ap (λ (x : Found ℕ). (x >>= λ byte. bytes_at m p 2 0 >>= λ bytes. Ok (byte ∷ bytes)) >>= λ bytes. Ok (low_byte v ∷ bytes)) high

module _ (choice : Choice) (own : Frame) (sp above : ℕ) (placed : IsPlaced choice own sp above) (a : Activation) (m : Cells) (shows : Shows choice sp a m) where
  word-given : (d : ℤ) (v : ℕ) → is_index above d ≡ true → held (slot_no a (index_of above d)) ≡ Ok v → bytes_at m (stack_place choice own.bp d) 0 2 ≡ Ok (word_bytes v)
  word-given d v t e =
      let has = held-word choice own sp above placed a m shows (index_of above d) v e in
      let lies = slot-lies choice own sp above placed d t has.1 in
      let at = λ (i : ℕ) (p : i < 2). byte-lies choice own.bp d (sp - 2 * (index_of above d + 1)) 2 i lies p in
      word-bytes-read m (stack_place choice own.bp d) (word_address choice sp (index_of above d)) v (at 0 (omega arith) ∙ omega arith) (at 1 (omega arith)) has.0

  words-given : (d : ℤ) (i v w : ℕ) → is_index above d ≡ true → index_of above d ≡ suc i → held (slot_no a (suc i)) ≡ Ok v → held (slot_no a i) ≡ Ok w → bytes_at m (stack_place choice own.bp d) 0 4 ≡ Ok (low_byte v ∷ high_byte v ∷ low_byte w ∷ high_byte w ∷ [])
  words-given d i v w t h e g =
      let first = held-word choice own sp above placed a m shows (suc i) v e in
      let second = held-word choice own sp above placed a m shows i w g in
      let lies = subst (λ k. LiesAt choice own.bp d (sp - 2 * (k + 1)) 2) h (slot-lies choice own sp above placed d t (subst (λ k. 2 * (k + 1) ≤ sp) (sym h) first.1)) in
      let s = placed.small in
      let l = placed.inside in
      let f = first.1 in
      let longer : LiesAt choice own.bp d (sp - 2 * (suc i + 1)) 4 = record { offset_is = lies.offset_is; small = omega arith; inside = omega arith } in
      let at = λ (k : ℕ) (p : k < 4). byte-lies choice own.bp d (sp - 2 * (suc i + 1)) 4 k longer p in
      let above_it : word_address choice sp i ≡ word_address choice sp (suc i) + 2 = omega arith in
      words-read m (stack_place choice own.bp d) (word_address choice sp (suc i)) v w (at 0 (omega arith) ∙ omega arith) (at 1 (omega arith)) (at 2 (omega arith)) (at 3 (omega arith)) first.0 (subst (λ x. HasWord m x w) above_it second.0)

  bytes-given : (d : ℤ) (n : ℕ) (bytes : List ℕ) → is_index above d ≡ true → bytes_from a (index_of above d) n ≡ Ok bytes → bytes_at m (stack_place choice own.bp d) 0 n ≡ Ok bytes
  bytes-given d zero bytes t e = absurd (cc)
  bytes-given d (suc zero) bytes t e = absurd (cc)
  bytes-given d (suc (suc zero)) bytes t e =
      let v = bind-ok (held (slot_no a (index_of above d))) (λ v. Ok (word_bytes v)) bytes e in word-given d v.0 t v.1 ∙ v.2
  bytes-given d (suc (suc (suc zero))) bytes t e = absurd (cc)
  bytes-given d (suc (suc (suc (suc zero)))) bytes t e = by (index_of above d) refl e
    where
      by : (i : ℕ) → index_of above d ≡ i → two_words a i ≡ Ok bytes → bytes_at m (stack_place choice own.bp d) 0 4 ≡ Ok bytes
      by zero h e = absurd (cc)
      by (suc i) h e =
          let v = bind-ok (held (slot_no a (suc i))) (λ v. held (slot_no a i) >>= λ w. Ok (low_byte v ∷ high_byte v ∷ low_byte w ∷ high_byte w ∷ [])) bytes e in
          let w = bind-ok (held (slot_no a i)) (λ w. Ok (low_byte v.0 ∷ high_byte v.0 ∷ low_byte w ∷ high_byte w ∷ [])) bytes v.2 in
          words-given d i v.0 w.0 t h v.1 w.1 ∙ w.2
  bytes-given d (suc (suc (suc (suc (suc n))))) bytes t e = absurd (cc)

  at-given : (at : Address) (n : ℕ) (bytes : List ℕ) → result_at above a at n ≡ Ok bytes → result_bytes choice own m (Some (record { at = at; bytes = n })) ≡ Ok bytes
  at-given (Local d) n bytes e =
      let test = if-ok (is_index above d) (bytes_from a (index_of above d) n) (Bad 2) bytes e in bytes-given d n bytes test.0 test.1
  at-given (Global unit number plus) n bytes e = absurd (cc)
  at-given (Outer levels at) n bytes e = absurd (cc)
  at-given (Through slot plus) n bytes e = absurd (cc)

  pub result-given : (result : Option FlatResult) (bytes : List ℕ) → result_seen above a result ≡ Ok bytes → result_bytes choice own m result ≡ Ok bytes
  result-given None bytes e = e
  result-given (Some result) bytes e = at-given result.at result.bytes bytes e

-- ---- calls that end, and calls that raise an error

outcome-comes : (exit : Exit) (s : State) → EndsRoutine exit → ComesTo (outcome_of exit s) s
outcome-comes Onward s h = next-comes s
outcome-comes (Leaving loops) s h = absurd h
outcome-comes Returning s h = returned-comes s
outcome-comes (Failing code) s h = absurd h

module _ (program : FlatProgram) (choice : Choice) (key : Key) (unit : UnitCode) (r : Routine) (held_so : IsHeld program key unit r) (fits : StackFits program choice) (args : List ℕ) (f : Frame) (s : State) (arguments : 2 * length args ≡ r.arguments) (room : activation_bytes r ≤ f.sp) (top : f.sp ≤ stack_top program) where
  abbrev own : Frame
  own = frame_of key.unit unit r f

  abbrev above : ℕ
  above = r.arguments + 6

  abbrev start : Activation
  start = entered choice f.sp r.locals args s

  stands : Stands program key unit r args f
  stands = record { unit_is = held_so.unit_is; routine_is = held_so.routine_is; resident = held_so.resident; untested = held_so.untested; fits = arguments; room = room }

  pub placed : IsPlaced choice own f.sp above
  placed =
      let size = activation-is r held_so.far in
      let links : link_bytes r.far ≡ 6 = ap link_bytes held_so.far in
      record { bp = omega (arith, room, size, links); small = omega (arith, top, fits.small); inside = omega (arith, top, fits.inside) }

  pub starts : (n : ℕ) → AreWords n args → IsSeen choice f.sp start (inside choice r args f s)
  starts n words = entered-seen choice r f args n s (record { far = held_so.far; arguments = arguments; locals = held_so.locals }) words room

  without-kept : (x : ℕ) → (x < 16 * choice.stack_segment) ⊎ (16 * choice.stack_segment + f.sp ≤ x) → memory_without choice f.sp s.cells x ≡ s.cells x
  without-kept x (inl h) = region_below s.cells choice.stack_segment 0 f.sp Outside x (omega (arith, h))
  without-kept x (inr h) = region_above s.cells choice.stack_segment 0 f.sp Outside x (omega (arith, h))

  waits : (turns work : ℕ) (exit : Exit) (b : Activation) (c : Comes program choice own f.sp r.body turns work exit b (inside choice r args f s)) → 0 < c.spent → (wanted : Option FlatResult) → (u : State) × (called program choice (run program choice) args wanted f (with_turns s 0) key ≡ Over Going u) × (u.out ≡ s.out) × (u.err ≡ s.err)
  waits turns work exit b c some wanted =
      let w = c.quiet some in
      (w.0, call-is program choice key unit r args wanted f (with_turns s 0) stands ∙ ap (λ o. finished o (ended choice r own f wanted)) w.1, w.2, w.3)

  pub call-ends : (touched : ℕ → Type 0) (post : State → List ℕ → Type 0) (turns work : ℕ) (exit : Exit) (b : Activation) (bytes : List ℕ) → EndsRoutine exit → Comes program choice own f.sp r.body turns work exit b (inside choice r args f s) →
      result_seen above b r.result ≡ Ok bytes → ((x : ℕ) → (touched x → ⊥) → b.memory x ≡ start.memory x) → ((after : State) → IsLeft choice f.sp b after → post after bytes) → Ends program choice key touched post turns work args f s
  call-ends touched post turns work exit b bytes ends c given keeps holds =
      let after = with_cells c.after (closed choice r f c.after.cells) in
      let shut = λ (x : ℕ) (free : IsBelow choice f.sp x → ⊥). closed-keeps choice r f c.after.cells x room (not_below choice f.sp x free) in
      record {
        spent = c.spent;
        few = c.few;
        after = after;
        bytes = bytes;
        holds = holds after (record { cells = λ x free. shut x free ∙ c.seen.cells.outside x free; flag = c.seen.flag; input = c.seen.input; out = c.seen.out; err = c.seen.err });
        kept = λ x free below. shut x below ∙ c.seen.cells.outside x below ∙ keeps x free ∙ without-kept x (not_below choice f.sp x below);
        worked = c.worked;
        ends = λ t wanted.
            call-comes program choice key unit r args wanted f (with_turns s (c.spent + t)) (with_turns c.after t) bytes stands
            (subst (λ o. ComesTo o (with_turns c.after t)) (sym (c.ends t)) (outcome-comes exit (with_turns c.after t) ends))
            (result-given choice own f.sp above placed b c.after.cells c.seen.cells r.result bytes given);
        quiet = λ some wanted. waits turns work exit b c some wanted;
      }

  pub call-raises : (post : State → ℕ → Type 0) (turns work code : ℕ) (b : Activation) → Comes program choice own f.sp r.body turns work (Failing code) b (inside choice r args f s) → ((after : State) → (after.flag ≡ b.flag) × (after.input ≡ b.input) × (after.out ≡ b.out) × (after.err ≡ b.err) → post after code) → Raises program choice key post turns work args f s
  call-raises post turns work code b c holds = record {
    spent = c.spent;
    few = c.few;
    after = c.after;
    code = code;
    holds = holds c.after (c.seen.flag, c.seen.input, c.seen.out, c.seen.err);
    worked = c.worked;
    raises = λ t wanted.
        call-is program choice key unit r args wanted f (with_turns s (c.spent + t)) stands
        ∙ ap (λ o. finished o (ended choice r own f wanted)) (c.ends t)
        ∙ raised-finishes t code (with_turns c.after t) (ended choice r own f wanted) refl;
    quiet = λ some wanted. waits turns work (Failing code) b c some wanted;
  }

-- ---- routines that compute words from words

words-are : (n : ℕ) (args : List ℕ) → AreWords n args → length args ≡ n
words-are zero [] h = refl
words-are zero (v ∷ vs) h = absurd h
words-are (suc n) [] h = absurd h
words-are (suc n) (v ∷ vs) h = ap suc (words-are n vs h.1)

-- where the body comes to what is promised from each words, the routine computes it
pub computes-so : (program : FlatProgram) (choice : Choice) (key : Key) (unit : UnitCode) (r : Routine) (stack words turns work : ℕ) (g : List ℕ → Result (List ℕ) ℕ) → IsHeld program key unit r → StackFits program choice → r.arguments ≡ 2 * words → r.arguments + 6 + r.locals ≤ stack →
    ((args : List ℕ) (own : Frame) (sp : ℕ) (s : State) → AreWords words args → IsPlaced choice own sp (r.arguments + 6) → Replies program choice own sp r turns work (entered choice sp r.locals args s) (g args)) →
    Computes program choice key stack words g turns work
computes-so program choice key unit r stack words turns work g held_so fits size deep replies args f s has are =
    by (g args) refl (replies args own f.sp s are (placed program choice key unit r held_so fits args f s arguments room has.inside))
  where
    own : Frame
    own = frame_of key.unit unit r f

    arguments : 2 * length args ≡ r.arguments
    arguments = ap (λ n. 2 * n) (words-are words args are) ∙ sym size

    room : activation_bytes r ≤ f.sp
    room = omega (arith, activation-is r held_so.far, deep, has.room)

    by : (x : Result (List ℕ) ℕ) → g args ≡ x → Replies program choice own f.sp r turns work (entered choice f.sp r.locals args s) x →
        Ends program choice key (λ address. ⊥) (λ after bytes. (g args ≡ Ok bytes) × KeepsRest s after) turns work args f s ⊎ Raises program choice key (λ after code. (g args ≡ Err code) × KeepsRest s after) turns work args f s
    by (Ok bytes) e answers = inl (call-ends program choice key unit r held_so fits args f s arguments room has.inside (λ address. ⊥) (λ after bytes. (g args ≡ Ok bytes) × KeepsRest s after) turns work answers.exit answers.there bytes answers.ends
        (answers.does (inside choice r args f s) (starts program choice key unit r held_so fits args f s arguments room has.inside words are))
        answers.given (λ x free. ap (λ m. m x) answers.keeps.memory)
        (λ after left. (e, record { flag = left.flag ∙ answers.keeps.flag; input = left.input ∙ answers.keeps.input; out = left.out ∙ answers.keeps.out; err = left.err ∙ answers.keeps.err })))
    by (Err code) e fails = inr (call-raises program choice key unit r held_so fits args f s arguments room has.inside (λ after code. (g args ≡ Err code) × KeepsRest s after) turns work code fails.there
        (fails.does (inside choice r args f s) (starts program choice key unit r held_so fits args f s arguments room has.inside words are))
        (λ after same. (e, record { flag = same.0 ∙ fails.keeps.flag; input = same.1 ∙ fails.keeps.input; out = same.2 ∙ fails.keeps.out; err = same.3 ∙ fails.keeps.err })))

-- OvrInit: the string is compared with the name of the overlay file.
use Rattle.std.proofs.Common.{◌≡◌, ℕ, suc, ◌+◌, ◌*◌, ◌≤◌, ◌<◌, Bool, true, false, List, [], ◌∷◌, length, map, Ok, Err, pos, negsuc, refl, sym, ap, subst, ◌∙◌, arith, ⊎_elim}
use Rattle.std.specs.Prelude.{nat_lt, ◌==◌, ◌&&◌, ◌||◌, if◌then◌else◌}
use Rattle.std.proofs.lemmas.Bool.{cases_eq}
use Rattle.std.proofs.lemmas.Bool.Decides.{nat_tests}
use Rattle.common_values.specs.integers.Words.{w16, wrapping_add, wrapping_sub}
use Rattle.type_layout.specs.Words.{same_bytes}
use Rattle.common_values.specs.Strings.{upper}
use Rattle.flat_code.specs.declared.memory.Cell.TheVariants.{Known}
use Rattle.flat_code.specs.declared.memory.Place.{Place}
use Rattle.flat_code.specs.declared.memory.Trap.TheVariants.{Bad}
use Rattle.flat_code.specs.declared.tree.FlatOp.TheVariants as op
use Rattle.flat_code.specs.Tree.{Number, AddressOf, SegmentOf, Op, Code, End, Loop, ◌then◌}
use Rattle.flat_code.specs.Memory.{Cells, Found, ◌>>=◌, address_of, place_after, word_bytes, laid}
use Rattle.flat_code.specs.Program.{FlatProgram, Choice, UnitCode, overlay_unit, runtime_key}
use Rattle.flat_code.specs.Meaning.{Frame, truth, activation_bytes, frame_of, stack_top}
use Rattle.flat_code.specs.Legal.{StackFits}
use Rattle.runtime_proofs.specs.routine_proofs.Activation.{Slot, Shut, Free, Holds, Activation, IsPlaced}
use Rattle.runtime_proofs.specs.routine_proofs.Straight.{Exit, Onward, Leaving, Came, byte_seen, segment_seen, seen_value, continued, straight, code_size}
use Rattle.runtime_proofs.specs.routine_proofs.Comes.{Does}
use Rattle.runtime_proofs.specs.routine_proofs.Entry.{entered, memory_without}
use Rattle.runtime_proofs.specs.routine_proofs.Specifications.{IsHeld}
use Rattle.runtime_proofs.proofs.routine_proofs.Replies.{next_of}
use Rattle.runtime_proofs.proofs.routine_proofs.Doing.{weaker-does, then-does, straight-does, round-does, leave-does, flag-does}
use Rattle.runtime_proofs.proofs.routine_proofs.Calls.{call-ends, placed, starts}
use Rattle.runtime_proofs.specs.strings_in_memory.Strings.{HasBytes, HasString, IsReached, place}
use Rattle.runtime_proofs.proofs.strings_in_memory.Cells.{byte-read, plus-none, plus-one, bytes-further}
use Rattle.runtime_proofs.specs.string_loops.Pieces.{word, behind}
use Rattle.runtime_proofs.proofs.string_loops.Seen.{op-so, set-so}
use Rattle.runtime_proofs.proofs.string_loops.Entry.{string-inside, reached-inside}
use Rattle.runtime_proofs.proofs.text_memory.Effects.{taken-does, other-does}
use Rattle.runtime_proofs.proofs.text_memory.Buffer.{off-lower}
use Rattle.heap_runtime.specs.overlay.Data.{HasOverlay}
use Rattle.heap_runtime.specs.overlay.Routines.{name_at, set_result, set_flag, name_length, begin_names, capital, next_letters, letters_round, end_names, init_routine}
use Rattle.heap_runtime.specs.overlay.Specifications.{init_number, is_file, result_word, IsResult, SetsResult, Installs}
use Rattle.heap_runtime.proofs.overlay.Results.{datum-at, result-so, fewer-off, others-stay, result-left}
use Rattle.heap_runtime.proofs.overlay.Names.{both-bits, capital-is, differ, length-same, length-differs, length-none}

module _ (program : FlatProgram) (choice : Choice) (own : Frame) (sp : ℕ) (is_placed : IsPlaced choice own sp 10) (is_overlay : own.unit ≡ overlay_unit) (result name_offset : ℕ) (there : HasOverlay program choice result name_offset) (e : Activation) (ls : ℕ) (m : Cells) where
  abbrev ds : ℕ
  ds = choice.data_segment

  -- in the routine: the string's offset, the pointer into the name, how many bytes are left, whether the names are the same so far, and the last byte of the string
  abbrev at : Slot → Slot → Slot → Slot → Slot → ℕ → Activation
  at segment offset left same byte l = record e { words = Holds ls ∷ Holds l ∷ Shut ∷ Shut ∷ Shut ∷ segment ∷ offset ∷ left ∷ same ∷ byte ∷ []; memory = m }

  abbrev st : ℕ → ℕ → ℕ → ℕ → ℕ → Activation
  st left same byte k l = at (Holds ds) (Holds k) (Holds left) (Holds same) (Holds byte) l

  -- ---- one round

  abbrev Round : Activation → Exit → Activation → Type 0
  Round a exit b = Does program choice own sp letters_round 0 40 a exit b

  -- the names differ
  stop-round : (left byte k l : ℕ) → Round (st left 0 byte k l) (Leaving 0) (st left 0 byte k l)
  stop-round left byte k l =
      let a = st left 0 byte k l in
      weaker-does program choice own sp letters_round 0 (code_size letters_round) 0 40 a (Leaving 0) a (omega arith) (omega arith) (straight-does program choice own sp 10 is_placed letters_round a (Leaving 0) a refl)

  -- no byte is left
  end-round : (byte k l : ℕ) → Round (st 0 1 byte k l) (Leaving 0) (st 0 1 byte k l)
  end-round byte k l =
      let a = st 0 1 byte k l in
      weaker-does program choice own sp letters_round 0 (code_size letters_round) 0 40 a (Leaving 0) a (omega arith) (omega arith) (straight-does program choice own sp 10 is_placed letters_round a (Leaving 0) a refl)

  module _ (left byte k l x y : ℕ) (short : left < 65535) (has : m (address_of (place ds k) 1) ≡ Known x) (small : x < 256) (also : m (address_of (place ls l) 1) ≡ Known y) (less : y < 256) where
    letters-so : straight choice own 10 next_letters (st (suc left) 1 byte k l) ≡ Ok (record { exit = Onward; there = st left (truth (x == upper y)) y (wrapping_add w16 k 1) (wrapping_add w16 l 1) })
    letters-so =
        let c1 = next_of next_letters in
        let c2 = next_of c1 in
        let s0 = st (suc left) 1 byte k l in
        let s1 = st (suc left) 1 y k l in
        let s2 = st (suc left) (truth (x == upper y)) y k l in
        let fewer : wrapping_sub w16 (suc left) 1 ≡ left = omega (arith, short) in
        let ending = λ (v : ℕ). let r : Found Came = Ok (record { exit = Onward; there = st v (truth (x == upper y)) y (wrapping_add w16 k 1) (wrapping_add w16 l 1) }) in r in
        let first = byte-read m (place_after (place ls l) 1) 0 y (ap m (plus-one ls l 0) ∙ also) less in
        let second = byte-read m (place_after (place ds k) 1) 0 x (ap m (plus-one ds k 0) ∙ has) small in
        let letter : seen_value choice own 10 s1 (capital (word (negsuc 9))) ≡ Ok (upper y) = ap (λ v. let r : Found ℕ = Ok v in r) (capital-is y less) in
        set-so choice own 10 (negsuc 9) (behind (pos 6) 1) c1 s0 s1 y first refl
        ∙ set-so choice own 10 (negsuc 7) (Op op.Equal (behind (negsuc 3) 1) (capital (word (negsuc 9)))) c2 s1 s2 (truth (x == upper y)) (op-so choice own 10 op.Equal (behind (negsuc 3) 1) (capital (word (negsuc 9))) s1 x (upper y) second letter) refl
        ∙ ap ending fewer

    next-round : Round (st (suc left) 1 byte k l) Onward (st left (truth (x == upper y)) y (wrapping_add w16 k 1) (wrapping_add w16 l 1))
    next-round =
        let a = st (suc left) 1 byte k l in
        let b = st left (truth (x == upper y)) y (wrapping_add w16 k 1) (wrapping_add w16 l 1) in
        weaker-does program choice own sp letters_round 0 (code_size letters_round) 0 40 a Onward b (omega arith) (omega arith)
        (straight-does program choice own sp 10 is_placed letters_round a Onward b
        (ap (λ (found : Found Came). (found >>= λ c. continued c.exit c.there (straight choice own 10 End)) >>= λ c. continued c.exit c.there (straight choice own 10 End)) letters-so))

  -- ---- all rounds

  abbrev rounds : Code
  rounds = Loop letters_round End

  -- where it stands in the end: whether the names are the same
  record Compared (left same byte k l turns v : ℕ) : Type 0 where
    left' : ℕ
    byte' : ℕ
    k' : ℕ
    l' : ℕ
    does : Does program choice own sp rounds (1 + turns) (42 * (1 + turns)) (st left same byte k l) Onward (st left' v byte' k' l')

  stopped : (left byte k l turns : ℕ) → Compared left 0 byte k l turns 0
  stopped left byte k l turns =
      let a = st left 0 byte k l in
      record {
        left' = left;
        byte' = byte;
        k' = k;
        l' = l;
        does = weaker-does program choice own sp rounds (1 + 0) (2 + 40) (1 + turns) (42 * (1 + turns)) a Onward a (omega arith) (omega arith)
            (leave-does program choice own sp letters_round 0 40 a (Leaving 0) Onward a refl (stop-round left byte k l));
      }

  -- after a round come the others
  onwards : (left byte k l x y v : ℕ) → Round (st (suc left) 1 byte k l) Onward (st left (truth (x == upper y)) y (wrapping_add w16 k 1) (wrapping_add w16 l 1)) → Compared left (truth (x == upper y)) y (wrapping_add w16 k 1) (wrapping_add w16 l 1) left v → Compared (suc left) 1 byte k l (suc left) v
  onwards left byte k l x y v round more =
      let a = st (suc left) 1 byte k l in
      let b = st left (truth (x == upper y)) y (wrapping_add w16 k 1) (wrapping_add w16 l 1) in
      let c = st more.left' v more.byte' more.k' more.l' in
      record {
        left' = more.left';
        byte' = more.byte';
        k' = more.k';
        l' = more.l';
        does = weaker-does program choice own sp rounds (1 + 0 + (1 + left)) (2 + 40 + 42 * (1 + left)) (1 + suc left) (42 * (1 + suc left)) a Onward c (omega arith) (omega arith)
            (round-does program choice own sp letters_round 0 40 (1 + left) (42 * (1 + left)) a b Onward c round more.does);
      }

  compared : (name text : List ℕ) (byte k l : ℕ) → length name ≡ length text → length name < 256 → HasBytes m (place ds k) 1 name → HasBytes m (place ls l) 1 text → Compared (length name) 1 byte k l (length name) (truth (same_bytes name (map upper text)))
  compared [] [] byte k l same short has also =
      let a = st 0 1 byte k l in
      record {
        left' = 0;
        byte' = byte;
        k' = k;
        l' = l;
        does = leave-does program choice own sp letters_round 0 40 a (Leaving 0) Onward a refl (end-round byte k l);
      }
  compared [] (y ∷ text) byte k l same short has also = absurd (omega (arith, same))
  compared (x ∷ name) [] byte k l same short has also = absurd (omega (arith, same))
  compared (x ∷ name) (y ∷ text) byte k l same short has also =
      let n = length name in
      let fewer : n < 65535 = omega (arith, short) in
      let more = compared name text y (wrapping_add w16 k 1) (wrapping_add w16 l 1) (omega (arith, same)) (omega (arith, short)) (bytes-further m ds k 1 name has.2) (bytes-further m ls l 1 text also.2) in
      onwards n byte k l x y (truth (same_bytes (x ∷ name) (map upper (y ∷ text)))) (next-round n byte k l x y fewer has.0 has.1 also.0 also.1) (by (x == upper y) more)
    where
      by : (b : Bool) → Compared (length name) 1 y (wrapping_add w16 k 1) (wrapping_add w16 l 1) (length name) (truth (same_bytes name (map upper text))) → Compared (length name) (truth b) y (wrapping_add w16 k 1) (wrapping_add w16 l 1) (length name) (truth (b && same_bytes name (map upper text)))
      by true more = more
      by false more = stopped (length name) y (wrapping_add w16 k 1) (wrapping_add w16 l 1) (length name)

  -- ---- from the beginning

  abbrev begun_same : List ℕ → List ℕ → ℕ
  begun_same name text = truth ((length text == length name) && nat_lt 0 (length name))

  all-compared : (name text : List ℕ) (k l : ℕ) → length name < 256 → HasBytes m (place ds k) 1 name → HasBytes m (place ls l) 1 text → Compared (length name) (begun_same name text) 0 k l (length name) (truth (is_file name text))
  all-compared [] text k l short has also = subst (λ v. Compared 0 v 0 k l 0 0) (sym (length-none (length text))) (stopped 0 0 k l 0)
  all-compared (x ∷ name) text k l short has also = ⊎_elim same other (cases_eq (length text) (length (x ∷ name)))
    where
      n : ℕ
      n = length (x ∷ name)

      same : length text ≡ n → Compared n (begun_same (x ∷ name) text) 0 k l n (truth (same_bytes (x ∷ name) (map upper text)))
      same is = subst (λ v. Compared n v 0 k l n (truth (same_bytes (x ∷ name) (map upper text)))) (sym (length-same (length text) n is (omega arith))) (compared (x ∷ name) text 0 k l (sym is) short has also)

      other : (length text ≡ n → ⊥) → Compared n (begun_same (x ∷ name) text) 0 k l n (truth (same_bytes (x ∷ name) (map upper text)))
      other ne =
          let nil : truth (same_bytes (x ∷ name) (map upper text)) ≡ 0 = ap truth (differ (x ∷ name) text (λ is. ne (sym is))) in
          subst (λ v. Compared n v 0 k l n (truth (same_bytes (x ∷ name) (map upper text)))) (sym (length-differs (length text) n ne)) (subst (λ v. Compared n 0 0 k l n v) (sym nil) (stopped n 0 k l n))

  name-byte : (a : Activation) (n : ℕ) → a.memory ≡ m → n < 256 → m (address_of (place ds name_offset) 0) ≡ Known n → seen_value choice own 10 a name_length ≡ Ok n
  name-byte a n same h has =
      let small = there.name_small in
      ap (λ (p : Found Place). p >>= λ q. byte_seen a.memory q 0) (datum-at choice own 10 is_overlay a 3 name_offset (omega (arith, small)) there.name_is)
      ∙ ap (λ (c : Cells). byte_seen c (place ds name_offset) 0) same
      ∙ byte-read m (place ds name_offset) 0 n has h

  begins : (n k l : ℕ) → n < 256 → k < 256 → m (address_of (place ds name_offset) 0) ≡ Known n → m (address_of (place ls l) 0) ≡ Known k →
      Does program choice own sp begin_names 0 40 (at Free Free Free Free Free l) Onward (st n (truth ((k == n) && nat_lt 0 n)) 0 name_offset l)
  begins n k l p q has also =
      let c1 = next_of begin_names in
      let c2 = next_of c1 in
      let c3 = next_of c2 in
      let c4 = next_of c3 in
      let v = truth ((k == n) && nat_lt 0 n) in
      let a0 = at Free Free Free Free Free l in
      let a1 = at (Holds ds) Free Free Free Free l in
      let a2 = at (Holds ds) (Holds name_offset) Free Free Free l in
      let a3 = at (Holds ds) (Holds name_offset) (Holds n) Free Free l in
      let a4 = at (Holds ds) (Holds name_offset) (Holds n) (Holds v) Free l in
      let a5 = st n v 0 name_offset l in
      let small = there.name_small in
      let segment : seen_value choice own 10 a0 (SegmentOf name_at) ≡ Ok ds = ap (λ (p : Found Place). p >>= segment_seen) (datum-at choice own 10 is_overlay a0 3 name_offset (omega (arith, small)) there.name_is) ∙ segment-so ds there.segment in
      let offset : seen_value choice own 10 a1 (AddressOf name_at) ≡ Ok name_offset = ap (λ (p : Found Place). let r : Found ℕ = p >>= λ q. Ok q.offset in r) (datum-at choice own 10 is_overlay a1 3 name_offset (omega (arith, small)) there.name_is) in
      let counted = byte-read m (place_after (place ls l) 0) 0 k (ap m (plus-none ls l 0) ∙ also) q in
      let long = op-so choice own 10 op.Equal (behind (pos 6) 0) name_length a3 k n counted (name-byte a3 n refl p has) in
      let some = op-so choice own 10 op.Below (Number 0) name_length a3 0 n refl (name-byte a3 n refl p has) in
      let same = op-so choice own 10 op.And (Op op.Equal (behind (pos 6) 0) name_length) (Op op.Below (Number 0) name_length) a3 (truth (k == n)) (truth (nat_lt 0 n)) long some ∙ ap (λ v. let r : Found ℕ = Ok v in r) (both-bits (k == n) (nat_lt 0 n)) in
      weaker-does program choice own sp begin_names 0 (code_size begin_names) 0 40 a0 Onward a5 (omega arith) (omega arith)
      (straight-does program choice own sp 10 is_placed begin_names a0 Onward a5
      (set-so choice own 10 (negsuc 1) (SegmentOf name_at) c1 a0 a1 ds segment refl
      ∙ set-so choice own 10 (negsuc 3) (AddressOf name_at) c2 a1 a2 name_offset offset refl
      ∙ set-so choice own 10 (negsuc 5) name_length c3 a2 a3 n (name-byte a2 n refl p has) refl
      ∙ set-so choice own 10 (negsuc 7) (Op op.And (Op op.Equal (behind (pos 6) 0) name_length) (Op op.Below (Number 0) name_length)) c4 a3 a4 v same refl
      ∙ set-so choice own 10 (negsuc 9) (Number 0) End a4 a5 0 refl refl))
    where
      segment-so : (s : ℕ) → s < 65536 → (let r : Found ℕ = if nat_lt s 65536 then Ok s else Err (Bad 1) in r ≡ Ok s)
      segment-so s h = ap (λ (t : Bool). let r : Found ℕ = if t then Ok s else Err (Bad 1) in r) (test s h)
        where
          test : (s : ℕ) → s < 65536 → nat_lt s 65536 ≡ true
          test s h = grind (arith, nat_tests, h)

  -- ---- the end

  -- OvrResult holds a word
  abbrev now : ℕ → Cells
  now v = laid m (place ds result) 0 (word_bytes v)

  -- the activation with it, and the flag as it was or set
  abbrev ended : Bool → ℕ → ℕ → ℕ → ℕ → Activation
  ended found left byte k l = record (st left (truth found) byte k l) { memory = now (result_word found); flag = found || e.flag }

  ends : (found : Bool) (left byte k l : ℕ) → IsReached m (place ds result) 2 → Does program choice own sp end_names 1 16 (st left (truth found) byte k l) Onward (ended found left byte k l)
  ends true left byte k l reached =
      let a = st left 1 byte k l in
      let b : Activation = record a { memory = now 0 } in
      let small = there.result_small in
      let set = straight-does program choice own sp 10 is_placed (set_result 0 End) a Onward b (result-so choice own 10 a (place ds result) 0 End refl (datum-at choice own 10 is_overlay a 0 result (omega (arith, small)) there.result_is) reached) in
      let both = then-does program choice own sp (set_result 0 End) set_flag 0 2 1 1 a b Onward (ended true left byte k l) set (flag-does program choice own sp b) in
      weaker-does program choice own sp end_names (0 + 1) (1 + 1 + (2 + 1)) 1 16 a Onward (ended true left byte k l) (omega arith) (omega arith)
      (taken-does program choice own sp 10 is_placed (word (negsuc 7)) (set_result 0 set_flag) (set_result 65534 End) 1 (0 + 1) (2 + 1) a Onward (ended true left byte k l) refl (λ z. omega (arith, z)) both)
  ends false left byte k l reached =
      let a = st left 0 byte k l in
      let small = there.result_small in
      let set = straight-does program choice own sp 10 is_placed (set_result 65534 End) a Onward (ended false left byte k l) (result-so choice own 10 a (place ds result) 65534 End refl (datum-at choice own 10 is_overlay a 0 result (omega (arith, small)) there.result_is) reached) in
      weaker-does program choice own sp end_names 0 (1 + 1 + 2) 1 16 a Onward (ended false left byte k l) (omega arith) (omega arith)
      (other-does program choice own sp 10 is_placed (word (negsuc 7)) (set_result 0 set_flag) (set_result 65534 End) 0 0 2 a Onward (ended false left byte k l) refl refl set)

  -- ---- from the first statement to the last

  record Installed (l : ℕ) (found : Bool) : Type 0 where
    left' : ℕ
    byte' : ℕ
    k' : ℕ
    l' : ℕ
    does : Does program choice own sp init_routine.body 512 16384 (at Free Free Free Free Free l) Onward (ended found left' byte' k' l')

  installed : (name text : List ℕ) (l : ℕ) → HasString m (place ds name_offset) name → HasString m (place ls l) text → IsReached m (place ds result) 2 → Installed l (is_file name text)
  installed name text l has also reached =
      let n = length name in
      let p = has.short in
      let found = is_file name text in
      let c = all-compared name text name_offset l p has.bytes also.bytes in
      let a0 = at Free Free Free Free Free l in
      let a1 = st n (begun_same name text) 0 name_offset l in
      let a2 = st c.left' (truth found) c.byte' c.k' c.l' in
      let a3 = ended found c.left' c.byte' c.k' c.l' in
      let first = begins n (length text) l p also.short has.size also.size in
      let rest = then-does program choice own sp rounds end_names (1 + n) (42 * (1 + n)) 1 16 a1 a2 Onward a3 c.does (ends found c.left' c.byte' c.k' c.l' reached) in
      record {
        left' = c.left';
        byte' = c.byte';
        k' = c.k';
        l' = c.l';
        does = weaker-does program choice own sp init_routine.body (0 + (1 + n + 1)) (40 + (42 * (1 + n) + 16)) 512 16384 a0 Onward a3 (omega (arith, p)) (omega (arith, p))
            (then-does program choice own sp begin_names (rounds then end_names) 0 40 (1 + n + 1) (42 * (1 + n) + 16) a0 a1 Onward a3 first rest);
      }

-- ---- the promise

pub installs : (program : FlatProgram) (choice : Choice) (result name : ℕ) (unit : UnitCode) → StackFits program choice → HasOverlay program choice result name → IsHeld program (runtime_key init_number) unit init_routine → Installs program choice result name
installs program choice result name unit fits there held_so ls l text f s are stack found string off =
    let key = runtime_key init_number in
    let room : activation_bytes init_routine ≤ f.sp = omega (arith, stack.room) in
    let args = ls ∷ l ∷ [] in
    let own = frame_of key.unit unit init_routine f in
    let here = placed program choice key unit init_routine held_so fits args f s refl room stack.inside in
    let start = entered choice f.sp 10 args s in
    let m = memory_without choice f.sp s.cells in
    let answer = is_file program.ovr_name text in
    let few = found.fits in
    let at_result = place choice.data_segment result in
    let at_name = place choice.data_segment name in
    let result_off = off-lower choice f.sp (stack_top program) at_result 2 stack.inside there.result_off in
    let name_off = fewer-off choice f.sp at_name 81 (1 + length program.ovr_name) (omega (arith, few)) (off-lower choice f.sp (stack_top program) at_name 81 stack.inside there.name_off) in
    let b = installed program choice own f.sp here refl result name there start ls m program.ovr_name text l (string-inside choice f.sp s.cells at_name program.ovr_name name_off found.name_there) (string-inside choice f.sp s.cells (place ls l) text off string) (reached-inside choice f.sp s.cells at_result 2 result_off found.result_there) in
    call-ends program choice key unit init_routine held_so fits args f s refl room stack.inside (IsResult choice result) (SetsResult choice result (result_word answer) answer s) 512 16384 Onward
    (ended program choice own f.sp here refl result name there start ls m answer b.left' b.byte' b.k' b.l') [] tt
    (b.does _ (starts program choice key unit init_routine held_so fits args f s refl room stack.inside 2 are))
    refl (others-stay choice result (result_word answer) m)
    (λ after left. record {
      nothing = refl;
      result_is = result-left choice f.sp result (result_word answer) m after.cells result_off left.cells;
      flag = left.flag;
      input = left.input;
      out = left.out;
      err = left.err;
    })

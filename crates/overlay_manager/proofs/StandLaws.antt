-- Where code that was loaded stands.
use Rattle.std.proofs.Common.{◌≡◌, ◌≢◌, ◌⊎◌, inl, inr, ℕ, zero, suc, ◌+◌, ◌*◌, ◌<◌, ◌≤◌, Bool, true, false, cond, List, [], ◌∷◌, length, drop, length-take, length-drop, Some, refl, sym, ap, ap₂, subst, ◌∙◌, arith}
use Rattle.std.specs.Prelude.{nat_le, slice_get, slice_index, slice_set, IsTrue, ◌==◌}
use Rattle.std.proofs.lemmas.List.{get_or-set_same, get_or-set_other}
use Rattle.std.proofs.lemmas.Bool.{eqb-true}
use Rattle.std.proofs.lemmas.Bool.Decides.{nat_tests}
use Rattle.std.proofs.Math.ListN.{length-set}
use Rattle.cpu_8086.specs.Memory.{address, next_offset, load_byte, load_word, store_byte, store_word, low_byte, high_byte}
use Rattle.cpu_8086.specs.Process.{with_bytes}
use Rattle.cpu_8086.proofs.MemoryLaws.{length-store_byte, length-store_word, load_byte-store_byte_same, load_byte-store_byte_other}
use Rattle.mz_file.specs.Load.{loaded_segment, with_loaded_segment}
use Rattle.mz_file.specs.Words.{word_at, words_at, with_word}
use Rattle.overlay_file.specs.declared.overlay.OvrEntry.{OvrEntry}
use Rattle.overlay_manager.specs.Code.{with_fixup, with_fixups, part_of, fixups_at, with_code, with_fixup_made, with_fixups_made, code_of, Stands}
use Rattle.return_repair.specs.declared.table.Loaded.{Loaded}
use Rattle.return_repair.specs.Follows.{overlay_at}
use Rattle.overlay_manager.specs.Loading.{OnlyWithin, IsWhole, is_moved, with_load, with_loads}
use Rattle.overlay_manager.proofs.LoadLaws.{moved_some}
use Rattle.overlay_manager.proofs.WithinLaws.{within-then, with_bytes-within, with_fixups-within}

-- the byte of a segment, and its address
byte-at : (memory : List ℕ) (segment offset : ℕ) → load_byte memory segment offset ≡ slice_index memory (address segment offset)
unfolding load_byte
byte-at memory segment offset = refl

-- bytes that were put stand there
put-stands : (memory : List ℕ) (segment offset : ℕ) (xs : List ℕ) → length memory ≡ 1048576 → 16 * segment + offset + length xs ≤ 1048576 → offset + length xs ≤ 65536 → (k : ℕ) → k < length xs → load_byte (with_bytes memory segment offset xs) segment (offset + k) ≡ slice_index xs k
put-stands memory segment offset [] size inside fits k below = absurd (omega arith)
put-stands memory segment offset (x ∷ []) size inside fits zero below =
    let here : offset + 0 ≡ offset = omega arith in
    ap (λ (at : ℕ). load_byte (store_byte memory segment offset x) segment at) here ∙ load_byte-store_byte_same memory segment offset x size
put-stands memory segment offset (x ∷ []) size inside fits (suc k) below = absurd (omega arith)
put-stands memory segment offset (x ∷ y ∷ xs) size inside fits zero below =
    let first : List ℕ = store_byte memory segment offset x in
    let here : offset + 0 ≡ offset = omega arith in
    let next : next_offset offset ≡ offset + 1 = omega arith in
    let within = with_bytes-within (16 * segment + offset + 1) 1048576 first segment (next_offset offset) (y ∷ xs) (omega (arith, next)) (omega (arith, next)) (omega arith) (omega (arith, next)) in
    let place : address segment offset ≡ 16 * segment + offset = omega arith in
    ap (λ (at : ℕ). load_byte (with_bytes first segment (next_offset offset) (y ∷ xs)) segment at) here
    ∙ byte-at (with_bytes first segment (next_offset offset) (y ∷ xs)) segment offset
    ∙ within.others (address segment offset) (inl (omega (arith, place)))
    ∙ sym (byte-at first segment offset)
    ∙ load_byte-store_byte_same memory segment offset x size
put-stands memory segment offset (x ∷ y ∷ xs) size inside fits (suc k) below =
    let first : List ℕ = store_byte memory segment offset x in
    let next : next_offset offset ≡ offset + 1 = omega arith in
    let same : offset + suc k ≡ next_offset offset + k = omega (arith, next) in
    ap (λ (at : ℕ). load_byte (with_bytes first segment (next_offset offset) (y ∷ xs)) segment at) same
    ∙ put-stands first segment (next_offset offset) (y ∷ xs) (length-store_byte memory segment offset x ∙ size) (omega (arith, next)) (omega (arith, next)) k (omega arith)

-- a word that was stored is the word of the list
length-made : (code : List ℕ) (fixup : ℕ) → length (with_fixup_made code fixup) ≡ length code
length-made code fixup = by (nat_le (fixup + 2) (length code))
  where
    by : (fits : Bool) → length (cond fits (with_loaded_segment code fixup) code) ≡ length code
    by true = length-set (slice_set code fixup (low_byte (loaded_segment (word_at code fixup)))) (fixup + 1) (high_byte (loaded_segment (word_at code fixup))) ∙ length-set code fixup (low_byte (loaded_segment (word_at code fixup)))
    by false = refl

load_word-is : (memory : List ℕ) (segment offset : ℕ) → load_word memory segment offset ≡ load_byte memory segment offset + 256 * load_byte memory segment (next_offset offset)
unfolding load_word
load_word-is memory segment offset = refl

store_word-is : (memory : List ℕ) (segment offset v : ℕ) → store_word memory segment offset v ≡ store_byte (store_byte memory segment offset (low_byte v)) segment (next_offset offset) (high_byte v)
unfolding store_word
store_word-is memory segment offset v = refl

ne : (k at : ℕ) → (k == at) ≡ false → at ≢ k
ne k at differ same = grind (arith, nat_tests)

-- two offsets of code differ in their addresses
apart-at : (segment size i k : ℕ) → 16 * segment + size ≤ 1048576 → i < size → k < size → i ≢ k → address segment k ≢ address segment i
apart-at segment size i k inside here there differ same = differ (omega arith)

-- a byte that is stored in both
byte-stands : (memory : List ℕ) (segment size at v : ℕ) (code : List ℕ) → length memory ≡ 1048576 → length code ≡ size → 16 * segment + size ≤ 1048576 → at < size → Stands memory segment code → Stands (store_byte memory segment at v) segment (slice_set code at v)
byte-stands memory segment size at v code length_is code_is inside there stands = λ k below. by k (k == at) refl (omega (arith, below, length-set code at v, code_is))
  where
    by : (k : ℕ) (here : Bool) → (k == at) ≡ here → k < size → load_byte (store_byte memory segment at v) segment k ≡ slice_index (slice_set code at v) k
    by k true here below =
        let is : k ≡ at = eqb-true k at here in
        rw is (load_byte-store_byte_same memory segment at v length_is ∙ sym (get_or-set_same code at v 0 (omega (arith, code_is))))
    by k false here below =
        let differ : at ≢ k = ne k at here in
        let differ_too : k ≢ at = λ same. differ (sym same) in
        load_byte-store_byte_other memory segment at segment k v (apart-at segment size at k inside there below differ)
        ∙ stands k (omega (arith, code_is))
        ∙ sym (get_or-set_other code at k v 0 differ_too)

word-stands : (memory : List ℕ) (segment size at v : ℕ) (code : List ℕ) → length memory ≡ 1048576 → length code ≡ size → 16 * segment + size ≤ 1048576 → size < 65536 → at + 2 ≤ size → Stands memory segment code → Stands (store_word memory segment at v) segment (with_word code at v)
word-stands memory segment size at v code length_is code_is inside small there stands =
    let next : next_offset at ≡ at + 1 = omega arith in
    let first : List ℕ = store_byte memory segment at (low_byte v) in
    let listed : List ℕ = slice_set code at (low_byte v) in
    let once = byte-stands memory segment size at (low_byte v) code length_is code_is inside (omega arith) stands in
    let twice = byte-stands first segment size (at + 1) (high_byte v) listed (length-store_byte memory segment at (low_byte v) ∙ length_is) (length-set code at (low_byte v) ∙ code_is) inside (omega arith) once in
    subst (λ (memory : List ℕ). Stands memory segment (with_word code at v)) (sym (store_word-is memory segment at v ∙ ap (λ (at : ℕ). store_byte first segment at (high_byte v)) next)) twice

-- a fixup that is made in memory is made in the list
fixup-stands : (memory : List ℕ) (segment size fixup : ℕ) (code : List ℕ) → length memory ≡ 1048576 → length code ≡ size → 16 * segment + size ≤ 1048576 → size < 65536 → Stands memory segment code → Stands (with_fixup size segment memory fixup) segment (with_fixup_made code fixup)
fixup-stands memory segment size fixup code length_is code_is inside small stands =
    subst (λ (test : Bool). Stands (with_fixup size segment memory fixup) segment (cond test (with_loaded_segment code fixup) code)) (sym (ap (nat_le (fixup + 2)) code_is)) (by (nat_le (fixup + 2) size) refl)
  where
    by : (fits : Bool) → nat_le (fixup + 2) size ≡ fits → Stands (cond fits (store_word memory segment fixup (loaded_segment (load_word memory segment fixup))) memory) segment (cond fits (with_loaded_segment code fixup) code)
    by false fits = stands
    by true fits =
        let room : fixup + 2 ≤ size = grind (arith, nat_tests) in
        let next : next_offset fixup ≡ fixup + 1 = omega arith in
        let word : load_word memory segment fixup ≡ word_at code fixup =
        load_word-is memory segment fixup ∙ ap₂ (λ (low high : ℕ). low + 256 * high) (stands fixup (omega (arith, code_is))) (ap (load_byte memory segment) next ∙ stands (fixup + 1) (omega (arith, code_is))) in
        subst (λ (word : ℕ). Stands (store_word memory segment fixup (loaded_segment word)) segment (with_loaded_segment code fixup)) (sym word)
        (word-stands memory segment size fixup (loaded_segment (word_at code fixup)) code length_is code_is inside small room stands)

length-fixup : (memory : List ℕ) (segment size fixup : ℕ) → length (with_fixup size segment memory fixup) ≡ length memory
length-fixup memory segment size fixup = by (nat_le (fixup + 2) size)
  where
    by : (fits : Bool) → length (cond fits (store_word memory segment fixup (loaded_segment (load_word memory segment fixup))) memory) ≡ length memory
    by true = length-store_word memory segment fixup (loaded_segment (load_word memory segment fixup))
    by false = refl

fixups-stand : (memory : List ℕ) (segment size : ℕ) (fixups code : List ℕ) → length memory ≡ 1048576 → length code ≡ size → 16 * segment + size ≤ 1048576 → size < 65536 → Stands memory segment code → Stands (with_fixups size segment memory fixups) segment (with_fixups_made code fixups)
fixups-stand memory segment size [] code length_is code_is inside small stands = stands
fixups-stand memory segment size (fixup ∷ fixups) code length_is code_is inside small stands =
    fixups-stand (with_fixup size segment memory fixup) segment size fixups (with_fixup_made code fixup) (length-fixup memory segment size fixup ∙ length_is) (length-made code fixup ∙ code_is) inside small
    (fixup-stands memory segment size fixup code length_is code_is inside small stands)

pub length-code_of : (bytes : List ℕ) (entry : OvrEntry) → 0 < entry.size → IsWhole bytes entry → length (code_of bytes entry) ≡ entry.size
length-code_of bytes entry some whole = all (words_at bytes (fixups_at entry) entry.fixups) (part_of bytes entry.place entry.size) ∙ omega (arith, length-take entry.size (drop entry.place bytes), length-drop entry.place bytes)
  where
    all : (fixups code : List ℕ) → length (with_fixups_made code fixups) ≡ length code
    all [] code = refl
    all (fixup ∷ fixups) code = all fixups (with_fixup_made code fixup) ∙ length-made code fixup

-- An overlay that was loaded stands.
pub code-stands : (memory : List ℕ) (segment : ℕ) (entry : OvrEntry) (bytes : List ℕ) → length memory ≡ 1048576 → 16 * segment + entry.size ≤ 1048576 → entry.size < 65536 → 0 < entry.size → IsWhole bytes entry → Stands (with_code memory segment entry bytes) segment (code_of bytes entry)
code-stands memory segment entry bytes length_is inside small some whole =
    let part = part_of bytes entry.place entry.size in
    let long : length part ≡ entry.size = omega (arith, length-take entry.size (drop entry.place bytes), length-drop entry.place bytes) in
    let put : List ℕ = with_bytes memory segment 0 part in
    let within = with_bytes-within 0 1048576 memory segment 0 part (omega arith) (omega (arith, long)) (omega arith) (omega (arith, long)) in
    fixups-stand put segment entry.size (words_at bytes (fixups_at entry) entry.fixups) part (within.size ∙ length_is) long inside small
    (λ k below. let here : 0 + k ≡ k = omega arith in ap (λ (at : ℕ). load_byte put segment at) (sym here) ∙ put-stands memory segment 0 part length_is (omega (arith, long)) (omega (arith, long)) k below)

-- loading writes only where the code is to stand
pub code-within : (memory : List ℕ) (segment : ℕ) (entry : OvrEntry) (bytes : List ℕ) → 16 * segment + entry.size ≤ 1048576 → entry.size < 65536 → OnlyWithin (16 * segment) (16 * segment + entry.size) memory (with_code memory segment entry bytes)
code-within memory segment entry bytes inside small =
    let part = part_of bytes entry.place entry.size in
    let short : length part ≤ entry.size = omega (arith, length-take entry.size (drop entry.place bytes)) in
    let put : List ℕ = with_bytes memory segment 0 part in
    within-then (16 * segment) (16 * segment + entry.size) memory put (with_code memory segment entry bytes)
    (with_bytes-within (16 * segment) (16 * segment + entry.size) memory segment 0 part (omega arith) (omega (arith, short)) inside (omega (arith, short)))
    (with_fixups-within (16 * segment) (16 * segment + entry.size) entry.size segment put (words_at bytes (fixups_at entry) entry.fixups) (record { above = omega arith; below = omega arith; inside = inside }) small)

-- an overlay that is loaded lies within memory, and its size is a word
pub record Loads (bytes : List ℕ) (entries : List OvrEntry) (new : List Loaded) : Type 0 where
  pub inside : (w : ℕ) (other : OvrEntry) → slice_get entries w ≡ Some other → (overlay_at new w).load ≢ 0 → 16 * (overlay_at new w).load + other.size ≤ 1048576
  pub small : (w : ℕ) (other : OvrEntry) → slice_get entries w ≡ Some other → (0 < other.size) × (other.size < 65536)

-- an address outside the code of an overlay
abbrev IsOutside : ℕ → ℕ → ℕ → Type 0
IsOutside load size at = (at < 16 * load) ⊎ (16 * load + size ≤ at)

-- one overlay
load-elsewhere : (bytes : List ℕ) (entry : OvrEntry) (was now : Loaded) (memory : List ℕ) (at : ℕ) → (now.load ≢ 0 → 16 * now.load + entry.size ≤ 1048576) → entry.size < 65536 → (IsTrue (is_moved was now) → IsOutside now.load entry.size at) → slice_index (with_load bytes entry was now memory) at ≡ slice_index memory at
load-elsewhere bytes entry was now memory at inside small outside = by (is_moved was now) refl
  where
    by : (moved : Bool) → is_moved was now ≡ moved → slice_index (cond moved (with_code memory now.load entry bytes) memory) at ≡ slice_index memory at
    by true moved = (code-within memory now.load entry bytes (inside (moved_some was now moved)) small).others at (outside moved)
    by false moved = refl

length-load : (bytes : List ℕ) (entry : OvrEntry) (was now : Loaded) (memory : List ℕ) → (now.load ≢ 0 → 16 * now.load + entry.size ≤ 1048576) → entry.size < 65536 → length (with_load bytes entry was now memory) ≡ length memory
length-load bytes entry was now memory inside small = by (is_moved was now) refl
  where
    by : (moved : Bool) → is_moved was now ≡ moved → length (cond moved (with_code memory now.load entry bytes) memory) ≡ length memory
    by true moved = (code-within memory now.load entry bytes (inside (moved_some was now moved)) small).size
    by false moved = refl

behind : (bytes : List ℕ) (entry : OvrEntry) (entries : List OvrEntry) (now : Loaded) (new : List Loaded) → Loads bytes (entry ∷ entries) (now ∷ new) → Loads bytes entries new
behind bytes entry entries now new loads = record {
  inside = λ w other found some. loads.inside (suc w) other found some;
  small = λ w other found. loads.small (suc w) other found;
}

-- all of them
loads-elsewhere : (bytes : List ℕ) (entries : List OvrEntry) (old new : List Loaded) (memory : List ℕ) (at : ℕ) → Loads bytes entries new
    → ((w : ℕ) (other : OvrEntry) → slice_get entries w ≡ Some other → (overlay_at new w).load ≢ 0 → IsOutside (overlay_at new w).load other.size at) → slice_index (with_loads bytes entries old new memory) at ≡ slice_index memory at
loads-elsewhere bytes [] old new memory at loads outside = refl
loads-elsewhere bytes (entry ∷ entries) [] new memory at loads outside = refl
loads-elsewhere bytes (entry ∷ entries) (was ∷ old) [] memory at loads outside = refl
loads-elsewhere bytes (entry ∷ entries) (was ∷ old) (now ∷ new) memory at loads outside =
    loads-elsewhere bytes entries old new (with_load bytes entry was now memory) at (behind bytes entry entries now new loads) (λ w other found some. outside (suc w) other found some)
    ∙ load-elsewhere bytes entry was now memory at (loads.inside 0 entry refl) (loads.small 0 entry refl).1 (λ moved. outside 0 entry refl (moved_some was now moved))

-- two overlays stand apart
abbrev pub StandApart : List OvrEntry → List Loaded → ℕ → OvrEntry → Type 0
StandApart entries new v entry = (w : ℕ) (other : OvrEntry) → slice_get entries w ≡ Some other → (overlay_at new w).load ≢ 0 → w ≢ v → (16 * (overlay_at new w).load + other.size ≤ 16 * (overlay_at new v).load) ⊎ (16 * (overlay_at new v).load + entry.size ≤ 16 * (overlay_at new w).load)

-- the bytes of code are outside other code
outside-other : (load size other other_size k : ℕ) → 16 * load + size ≤ 1048576 → k < size → (16 * other + other_size ≤ 16 * load) ⊎ (16 * load + size ≤ 16 * other) → IsOutside other other_size (address load k)
outside-other load size other other_size k inside below (inl before) = inr (let place : address load k ≡ 16 * load + k = omega arith in omega (arith, place))
outside-other load size other other_size k inside below (inr after) = inl (let place : address load k ≡ 16 * load + k = omega arith in omega (arith, place))

pub stands-from : (memory other : List ℕ) (segment : ℕ) (code : List ℕ) → ((k : ℕ) → k < length code → slice_index memory (address segment k) ≡ slice_index other (address segment k)) → Stands other segment code → Stands memory segment code
stands-from memory other segment code same stands = λ k below. byte-at memory segment k ∙ same k below ∙ sym (byte-at other segment k) ∙ stands k below

pub loads-stand : (bytes : List ℕ) (entries : List OvrEntry) (old new : List Loaded) (memory : List ℕ) (v : ℕ) (entry : OvrEntry) → length memory ≡ 1048576 → Loads bytes entries new → v < length old → v < length new → slice_get entries v ≡ Some entry → (overlay_at new v).load ≢ 0
    → StandApart entries new v entry → IsWhole bytes entry → (is_moved (overlay_at old v) (overlay_at new v) ≡ false → Stands memory (overlay_at new v).load (code_of bytes entry))
    → Stands (with_loads bytes entries old new memory) (overlay_at new v).load (code_of bytes entry)
loads-stand bytes [] old new memory v entry length_is loads in_old in_new found some apart whole before = absurd cc
loads-stand bytes (first ∷ entries) [] new memory v entry length_is loads in_old in_new found some apart whole before = absurd (omega arith)
loads-stand bytes (first ∷ entries) (was ∷ old) [] memory v entry length_is loads in_old in_new found some apart whole before = absurd (omega arith)
loads-stand bytes (first ∷ entries) (was ∷ old) (now ∷ new) memory zero entry length_is loads in_old in_new found some apart whole before =
    let is : first ≡ entry = cc in
    let inside = loads.inside 0 entry found some in
    let small = loads.small 0 entry found in
    let here : Stands (with_load bytes entry was now memory) now.load (code_of bytes entry) = one (is_moved was now) refl in
    let moved : List ℕ = with_load bytes entry was now memory in
    let rest = loads-elsewhere bytes entries old new moved in
    let same : with_load bytes first was now memory ≡ moved = ap (λ entry. with_load bytes entry was now memory) is in
    subst (λ (memory : List ℕ). Stands (with_loads bytes entries old new memory) now.load (code_of bytes entry)) (sym same)
    (stands-from (with_loads bytes entries old new moved) moved now.load (code_of bytes entry)
    (λ k below. rest (address now.load k) (behind bytes first entries now new loads)
    (λ w other found_other some_other. outside-other now.load entry.size (overlay_at new w).load other.size k inside (omega (arith, below, length-code_of bytes entry small.0 whole)) (apart (suc w) other found_other some_other (λ same. omega arith)))) here)
  where
    one : (moved : Bool) → is_moved was now ≡ moved → Stands (cond moved (with_code memory now.load entry bytes) memory) now.load (code_of bytes entry)
    one true moved = code-stands memory now.load entry bytes length_is (loads.inside 0 entry found some) (loads.small 0 entry found).1 (loads.small 0 entry found).0 whole
    one false moved = before moved
loads-stand bytes (first ∷ entries) (was ∷ old) (now ∷ new) memory (suc v) entry length_is loads in_old in_new found some apart whole before =
    let moved : List ℕ = with_load bytes first was now memory in
    let small = loads.small (suc v) entry found in
    loads-stand bytes entries old new moved v entry (length-load bytes first was now memory (loads.inside 0 first refl) (loads.small 0 first refl).1 ∙ length_is) (behind bytes first entries now new loads) (omega arith) (omega arith) found some
    (λ w other found_other some_other differ. apart (suc w) other found_other some_other (λ same. differ (omega arith))) whole
    (λ kept. stands-from moved memory (overlay_at new v).load (code_of bytes entry)
    (λ k below. load-elsewhere bytes first was now memory (address (overlay_at new v).load k) (loads.inside 0 first refl) (loads.small 0 first refl).1
    (λ is_moved_first. outside-other (overlay_at new v).load entry.size now.load first.size k (loads.inside (suc v) entry found some) (omega (arith, below, length-code_of bytes entry small.0 whole)) (apart 0 first refl (moved_some was now is_moved_first) (λ same. omega arith))))
    (before kept))

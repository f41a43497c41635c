-- Whole overlay files: what is read is spelled so, what is spelled so is read, and no spelling begins another.
use Rattle.std.proofs.Common.{◌≡◌, ℕ, zero, suc, ◌+◌, ◌-◌, ◌*◌, ◌<◌, ◌≤◌, true, false, cond, List, [], ◌∷◌, ◌++◌, length, get_or, take, drop, map, Result, Ok, Err, refl, sym, ap, ap₂, subst, ◌∙◌, append_assoc, length-append, arith}
use Rattle.std.specs.Prelude.{IfOk, IsTrue, nat_lt, nat_le, ◌==◌}
use Rattle.std.specs.List.{flat_map, AllByRecursion}
use Rattle.std.proofs.lemmas.Bool.{eqb-true}
use Rattle.std.proofs.lemmas.Bool.Decides.{nat_tests}
use Rattle.std.proofs.lemmas.List.{length-map}
use Rattle.cpu_8086.specs.Memory.{low_byte, high_byte}
use Rattle.mz_file.specs.Words.{bytes_of_words}
use Rattle.overlay_file.specs.declared.overlay.OverlayCode8086.{OverlayCode8086}
use Rattle.overlay_file.specs.declared.overlay.OvrEntry.{OvrEntry}
use Rattle.overlay_file.specs.Format.{AreOverlays, IsOverlay, front_bytes, overlay_bytes, spelling}
use Rattle.overlay_file.specs.Index.{index_of, index_from, overlays_of}
use Rattle.overlay_file.specs.declared.error.OvrError.{OvrError}
use Rattle.overlay_file.specs.Parts.{◌>>=◌, byte_where, word_where, Gives}
use Rattle.overlay_file.specs.Reading.{is_overlay_count, letters_at, count_at, entries_from, reading}
use Rattle.overlay_file.proofs.Places.{AreBytes, Has, has-append, has-front, has-back, has-all, has-itself}
use Rattle.overlay_file.proofs.PartLaws.{done, ok_is, bind_ok, guard_ok, both, and, Read, byte_where-ok, byte_where-again, word_where-ok, word_where-again}
use Rattle.overlay_file.proofs.EntryLaws.{OverlaysStand, EntriesRead, entries_from-ok, entries_from-again, overlays_of-held}

abbrev letters : List ℕ
letters = 0x54 ∷ 0x4F ∷ 0x56 ∷ 0x31 ∷ []

letter_stands : (letter : ℕ) (bytes : List ℕ) (at byte : ℕ) → byte_where (λ byte. byte == letter) bytes at ≡ Ok byte → Has bytes at (letter ∷ [])
letter_stands letter bytes at byte read =
    let there = byte_where-ok (λ byte. byte == letter) bytes at byte read in
    subst (λ (x : ℕ). Has bytes at (x ∷ [])) (eqb-true byte letter there.allowed) there.held

letters_at-ok : (bytes : List ℕ) (behind : ℕ) → letters_at bytes ≡ Ok behind → Has bytes 0 letters × (behind ≡ 4)
unfolding letters_at
letters_at-ok bytes behind read =
    let a = bind_ok (byte_where (λ byte. byte == 0x54) bytes 0) (λ _. byte_where (λ byte. byte == 0x4F) bytes 1 >>= λ _. byte_where (λ byte. byte == 0x56) bytes 2 >>= λ _. byte_where (λ byte. byte == 0x31) bytes 3 >>= λ _. Ok 4) behind read in
    let b = bind_ok (byte_where (λ byte. byte == 0x4F) bytes 1) (λ _. byte_where (λ byte. byte == 0x56) bytes 2 >>= λ _. byte_where (λ byte. byte == 0x31) bytes 3 >>= λ _. Ok 4) behind a.2 in
    let c = bind_ok (byte_where (λ byte. byte == 0x56) bytes 2) (λ _. byte_where (λ byte. byte == 0x31) bytes 3 >>= λ _. Ok 4) behind b.2 in
    let d = bind_ok (byte_where (λ byte. byte == 0x31) bytes 3) (λ _. Ok 4) behind c.2 in
    let last = has-append bytes 2 3 (0x56 ∷ []) (0x31 ∷ []) refl (letter_stands 0x56 bytes 2 c.0 c.1) (letter_stands 0x31 bytes 3 d.0 d.1) in
    let later = has-append bytes 1 2 (0x4F ∷ []) (0x56 ∷ 0x31 ∷ []) refl (letter_stands 0x4F bytes 1 b.0 b.1) last in
    (has-append bytes 0 1 (0x54 ∷ []) (0x4F ∷ 0x56 ∷ 0x31 ∷ []) refl (letter_stands 0x54 bytes 0 a.0 a.1) later, sym (ok_is 4 behind d.2))

letters_at-again : (bytes text : List ℕ) → Has bytes 0 (0x54 ∷ 0x4F ∷ 0x56 ∷ 0x31 ∷ text) → letters_at bytes ≡ Ok 4
unfolding letters_at
letters_at-again bytes text held =
    let a = byte_where-again (λ byte. byte == 0x54) bytes 0 0x54 (0x4F ∷ 0x56 ∷ 0x31 ∷ text) held refl in
    let b_held = has-back bytes 0 1 (0x54 ∷ []) (0x4F ∷ 0x56 ∷ 0x31 ∷ text) refl held in
    let b = byte_where-again (λ byte. byte == 0x4F) bytes 1 0x4F (0x56 ∷ 0x31 ∷ text) b_held refl in
    let c_held = has-back bytes 1 2 (0x4F ∷ []) (0x56 ∷ 0x31 ∷ text) refl b_held in
    let c = byte_where-again (λ byte. byte == 0x56) bytes 2 0x56 (0x31 ∷ text) c_held refl in
    let d_held = has-back bytes 2 3 (0x56 ∷ []) (0x31 ∷ text) refl c_held in
    let d = byte_where-again (λ byte. byte == 0x31) bytes 3 0x31 text d_held refl in
    rw (a, b, c, d) refl

pub record CountRead (bytes : List ℕ) (count : ℕ) : Type 0 where
  pub held : Has bytes 0 (front_bytes count)
  pub some : 0 < count
  pub few : count ≤ 256

pub count_at-ok : (bytes : List ℕ) (count : ℕ) → AreBytes bytes → count_at bytes ≡ Ok count → CountRead bytes count
unfolding count_at
count_at-ok bytes count fits read =
    let a = bind_ok (letters_at bytes) (λ behind. word_where (λ version. version == 1) bytes behind >>= λ _. word_where is_overlay_count bytes (behind + 2)) count read in
    let b = bind_ok (word_where (λ version. version == 1) bytes a.0) (λ _. word_where is_overlay_count bytes (a.0 + 2)) count a.2 in
    let front = letters_at-ok bytes a.0 a.1 in
    let version = word_where-ok (λ version. version == 1) bytes a.0 b.0 fits b.1 in
    let counted = word_where-ok is_overlay_count bytes (a.0 + 2) count fits b.2 in
    let version_is : b.0 ≡ 1 = eqb-true b.0 1 version.allowed in
    let limits = both (nat_lt 0 count) (nat_le count 256) counted.allowed in
    let version_held : Has bytes 4 (bytes_of_words (1 ∷ [])) = subst (λ (at : ℕ). Has bytes at (bytes_of_words (1 ∷ []))) front.1 (subst (λ (n : ℕ). Has bytes a.0 (bytes_of_words (n ∷ []))) version_is version.held) in
    let count_held : Has bytes 6 (bytes_of_words (count ∷ [])) = subst (λ (at : ℕ). Has bytes (at + 2) (bytes_of_words (count ∷ []))) front.1 counted.held in
    record {
      held = has-append bytes 0 4 letters (bytes_of_words (1 ∷ count ∷ [])) refl front.0 (has-append bytes 4 6 (bytes_of_words (1 ∷ [])) (bytes_of_words (count ∷ [])) refl version_held count_held);
      some = grind (arith, nat_tests, limits.0);
      few = grind (arith, nat_tests, limits.1);
    }

count_at-again : (bytes : List ℕ) (count : ℕ) → Has bytes 0 (front_bytes count) → 0 < count → count ≤ 256 → count_at bytes ≡ Ok count
unfolding count_at
count_at-again bytes count held some few =
    let version_held = has-back bytes 0 4 letters (bytes_of_words (1 ∷ count ∷ [])) refl held in
    let count_held = has-back bytes 4 6 (bytes_of_words (1 ∷ [])) (bytes_of_words (count ∷ [])) refl version_held in
    let fits : IsTrue (is_overlay_count count) = and (nat_lt 0 count) (nat_le count 256) (grind (arith, nat_tests)) (grind (arith, nat_tests)) in
    let version = word_where-again (λ version. version == 1) bytes 4 1 (bytes_of_words (count ∷ [])) version_held refl in
    rw (letters_at-again bytes (bytes_of_words (1 ∷ count ∷ [])) held, version) (word_where-again is_overlay_count bytes 6 count [] count_held fits)

-- what is read is spelled so
pub record FileRead (bytes : List ℕ) (index : List OvrEntry) : Type 0 where
  pub sound : AreOverlays (overlays_of bytes index)
  pub spelled : bytes ≡ spelling (overlays_of bytes index)
  pub index_is : index ≡ index_of (overlays_of bytes index)

pub reading-ok : (bytes : List ℕ) (index : List OvrEntry) → AreBytes bytes → reading bytes ≡ Ok index → FileRead bytes index
unfolding reading spelling
reading-ok bytes index fits read =
    let a = bind_ok (count_at bytes) (λ count. entries_from count bytes 8 >>= λ entries. cond (nat_lt entries.1 (length bytes)) (Err entries.1) (Ok entries.0)) index read in
    let b = bind_ok (entries_from a.0 bytes 8) (λ entries. cond (nat_lt entries.1 (length bytes)) (Err entries.1) (Ok entries.0)) index a.2 in
    let c = guard_ok (nat_lt b.0.1 (length bytes)) b.0.1 b.0.0 index b.2 in
    let front = count_at-ok bytes a.0 fits a.1 in
    let entries = entries_from-ok a.0 bytes 8 b.0 fits (omega (arith, front.held.inside)) b.1 in
    let overlays = overlays_of bytes b.0.0 in
    let text : List ℕ = flat_map overlay_bytes overlays in
    let count : length overlays ≡ a.0 = length-map b.0.0 _ ∙ entries.count in
    let counted : Has bytes 0 (front_bytes (length overlays)) = subst (λ (n : ℕ). Has bytes 0 (front_bytes n)) (sym count) front.held in
    let whole = has-append bytes 0 8 (front_bytes (length overlays)) text refl counted entries.stand.held in
    let end : length bytes ≤ b.0.1 = grind (arith, nat_tests, c.0) in
    let size : length (front_bytes (length overlays) ++ text) ≡ length bytes = omega (arith, end, entries.stand.end, whole.inside, length-append (front_bytes (length overlays)) text) in
    let made : FileRead bytes b.0.0 = record {
      sound = record { some = omega (arith, front.some, count); few = omega (arith, front.few, count); each = entries.stand.sound };
      spelled = has-all bytes (front_bytes (length overlays) ++ text) size whole;
      index_is = entries.stand.index;
    } in
    subst (λ (index : List OvrEntry). FileRead bytes index) c.1 made

-- what stands in front is read, whatever follows
front_read : (bytes : List ℕ) (overlays : List OverlayCode8086) → Has bytes 0 (spelling overlays) → AreOverlays overlays
    → (count_at bytes ≡ Ok (length overlays)) × (entries_from (length overlays) bytes 8 ≡ Ok (index_of overlays, length (spelling overlays)))
unfolding spelling
front_read bytes overlays held sound =
    let text : List ℕ = flat_map overlay_bytes overlays in
    let front = has-front bytes 0 (front_bytes (length overlays)) text held in
    let behind = has-back bytes 0 8 (front_bytes (length overlays)) text refl held in
    let size : 8 + length text ≡ length (front_bytes (length overlays) ++ text) = omega (arith, length-append (front_bytes (length overlays)) text) in
    (count_at-again bytes (length overlays) front sound.some sound.few, entries_from-again bytes 8 overlays behind sound.each ∙ ap (λ (n : ℕ). Ok (index_of overlays, n)) size)

-- what is spelled so is read
pub reading-again : (overlays : List OverlayCode8086) → AreOverlays overlays → reading (spelling overlays) ≡ Ok (index_of overlays)
unfolding reading
reading-again overlays sound =
    let bytes = spelling overlays in
    let front = front_read bytes overlays (has-itself bytes) sound in
    let end : nat_lt (length bytes) (length bytes) ≡ false = grind (arith, nat_tests) in
    rw (front.0, front.1, end) refl

-- no spelling begins another
begins : (text rest : List ℕ) → Has (text ++ rest) 0 text
begins text rest = has-front (text ++ rest) 0 text rest (has-itself (text ++ rest))

same_read : {A : Type 0} (r : Result A ℕ) (x y : A) → r ≡ Ok x → r ≡ Ok y → x ≡ y
same_read r x y first second = ok_is x y (sym first ∙ second)

pub spelled_once : (bytes : List ℕ) (overlays others : List OverlayCode8086) → Has bytes 0 (spelling overlays) → Has bytes 0 (spelling others) → AreOverlays overlays → AreOverlays others → overlays ≡ others
unfolding spelling
spelled_once bytes overlays others held held_too sound sound_too =
    let first = front_read bytes overlays held sound in
    let second = front_read bytes others held_too sound_too in
    let count : length overlays ≡ length others = same_read (count_at bytes) (length overlays) (length others) first.0 second.0 in
    let again : entries_from (length overlays) bytes 8 ≡ Ok (index_of others, length (spelling others)) = ap (λ (n : ℕ). entries_from n bytes 8) count ∙ second.1 in
    let one : List OvrEntry × ℕ = (index_of overlays, length (spelling overlays)) in
    let other : List OvrEntry × ℕ = (index_of others, length (spelling others)) in
    let same = same_read (entries_from (length overlays) bytes 8) one other first.1 again in
    let index : index_of overlays ≡ index_of others = ap (λ (read : List OvrEntry × ℕ). read.0) same in
    let back = overlays_of-held bytes 8 overlays (has-back bytes 0 8 (front_bytes (length overlays)) (flat_map overlay_bytes overlays) refl held) in
    let back_too = overlays_of-held bytes 8 others (has-back bytes 0 8 (front_bytes (length others)) (flat_map overlay_bytes others) refl held_too) in
    sym back ∙ ap (λ (index : List OvrEntry). overlays_of bytes index) index ∙ back_too

pub one_spelling-law : (overlays others : List OverlayCode8086) (x y : List ℕ) → AreOverlays overlays → AreOverlays others → spelling overlays ++ x ≡ spelling others ++ y → overlays ≡ others
one_spelling-law overlays others x y sound sound_too same =
    let held_too : Has (spelling overlays ++ x) 0 (spelling others) = subst (λ (bytes : List ℕ). Has bytes 0 (spelling others)) (sym same) (begins (spelling others) y) in
    spelled_once (spelling overlays ++ x) overlays others (begins (spelling overlays) x) held_too sound sound_too

-- what a function read
pub is_found : (bytes : List ℕ) (r : Result (List OvrEntry) OvrError) → AreBytes bytes → Gives (λ (index : List OvrEntry). index) r (reading bytes)
    → IfOk r (λ index. let overlays = overlays_of bytes index in AreOverlays overlays × (bytes ≡ spelling overlays) × (index ≡ index_of overlays))
is_found bytes (Ok index) fits given = let read = reading-ok bytes index fits given in (read.sound, read.spelled, read.index_is)
is_found bytes (Err e) fits given = tt

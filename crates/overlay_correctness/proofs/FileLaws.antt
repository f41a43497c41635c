-- What an overlay file that was read has of its overlays: at most 256, each with bytes, and each whole.
use Rattle.std.proofs.Common.{◌≡◌, ℕ, zero, suc, ◌+◌, ◌*◌, ◌<◌, ◌≤◌, ◌==◌, Bool, List, [], ◌∷◌, cond, length, Some, Ok, Err, refl, ap, subst, arith}
use Rattle.std.specs.Prelude.{IsTrue, nat_le, nat_lt, slice_get}
use Rattle.std.proofs.lemmas.Bool.Decides.{nat_tests}
use Rattle.overlay_file.specs.declared.overlay.OvrEntry.{OvrEntry}
use Rattle.overlay_file.specs.Index.{entry_end}
use Rattle.overlay_file.specs.Parts.{◌>>=◌, allowed_at, free_bytes, free_word, word_where}
use Rattle.overlay_file.specs.Reading.{is_code_size, is_overlay_count, name_at, stands_as_fixup, fixups_from, entry_at, entries_from, letters_at, count_at, reading}
use Rattle.overlay_file.proofs.PartLaws.{ok_is, bind_ok, guard_ok, rule_ok, both, free_bytes-ok, free_word-ok}
use Rattle.overlay_manager.specs.Loading.{IsWhole}

-- a word that was read is allowed, and lies in the bytes
word_ok : (rule : ℕ → Bool) (bytes : List ℕ) (at word : ℕ) → word_where rule bytes at ≡ Ok word → IsTrue (rule word) × (at + 2 ≤ length bytes)
word_ok rule bytes at word read =
    let first = bind_ok (free_word bytes at) (allowed_at at rule) word read in
    let second = rule_ok (rule first.0) at first.0 word first.2 in
    (subst (λ (x : ℕ). IsTrue (rule x)) second.1 second.0, (free_word-ok bytes at first.0 first.1).0)

fixups_end : (size least n : ℕ) (bytes : List ℕ) (at end : ℕ) → at ≤ length bytes → fixups_from size least n bytes at ≡ Ok end → at + 2 * n ≤ length bytes
unfolding fixups_from
fixups_end size least zero bytes at end inside read = omega arith
fixups_end size least (suc n) bytes at end inside read =
    let first = bind_ok (word_where (stands_as_fixup size least) bytes at) (λ fixup. fixups_from size (fixup + 2) n bytes (at + 2)) end read in
    let word = word_ok (stands_as_fixup size least) bytes at first.0 first.1 in
    let rest = fixups_end size (first.0 + 2) n bytes (at + 2) end word.1 first.2 in
    omega arith

-- an overlay has bytes, fewer than a segment, and the file has it whole
abbrev pub IsReadWhole : List ℕ → OvrEntry → Type 0
IsReadWhole bytes entry = (0 < entry.size) × (entry.size < 65536) × IsWhole bytes entry

abbrev made : List ℕ → ℕ → ℕ → ℕ → OvrEntry
made name at size fixups = record { name = name; place = at + 5 + length name; size = size; fixups = fixups }

entry_sound : (bytes : List ℕ) (at : ℕ) (entry : OvrEntry) → entry_at bytes at ≡ Ok entry → IsReadWhole bytes entry
unfolding entry_at
entry_sound bytes at entry read =
    let a = bind_ok (name_at bytes at)
    (λ name. word_where is_code_size bytes (at + 1 + length name)
    >>= λ size. free_word bytes (at + 3 + length name) >>= λ fixups. free_bytes size bytes (at + 5 + length name) >>= λ behind. fixups_from size 0 fixups bytes behind >>= λ _. Ok (made name at size fixups)) entry read in
    let name = a.0 in
    let b = bind_ok (word_where is_code_size bytes (at + 1 + length name))
    (λ size. free_word bytes (at + 3 + length name) >>= λ fixups. free_bytes size bytes (at + 5 + length name) >>= λ behind. fixups_from size 0 fixups bytes behind >>= λ _. Ok (made name at size fixups)) entry a.2 in
    let size = b.0 in
    let c = bind_ok (free_word bytes (at + 3 + length name))
    (λ fixups. free_bytes size bytes (at + 5 + length name) >>= λ behind. fixups_from size 0 fixups bytes behind >>= λ _. Ok (made name at size fixups)) entry b.2 in
    let fixups = c.0 in
    let d = bind_ok (free_bytes size bytes (at + 5 + length name)) (λ behind. fixups_from size 0 fixups bytes behind >>= λ _. Ok (made name at size fixups)) entry c.2 in
    let e = bind_ok (fixups_from size 0 fixups bytes d.0) (λ _. Ok (made name at size fixups)) entry d.2 in
    let rule = both (nat_lt 0 size) (nat_le size 65520) (word_ok is_code_size bytes (at + 1 + length name) size b.1).0 in
    let room = free_bytes-ok size bytes (at + 5 + length name) d.0 d.1 in
    let there : d.0 ≤ length bytes = omega arith in
    let end = fixups_end size 0 fixups bytes d.0 e.0 there e.1 in
    let some : 0 < size = grind (arith, nat_tests, rule.0) in
    let small : size ≤ 65520 = grind (arith, nat_tests, rule.1) in
    subst (IsReadWhole bytes) (ok_is (made name at size fixups) entry e.2) (some, omega arith, omega arith)

entries_sound : (n : ℕ) (bytes : List ℕ) (at : ℕ) (read : List OvrEntry × ℕ) → entries_from n bytes at ≡ Ok read → (length read.0 ≡ n) × ((v : ℕ) (entry : OvrEntry) → slice_get read.0 v ≡ Some entry → IsReadWhole bytes entry)
unfolding entries_from
entries_sound zero bytes at read is = subst (λ (r : List OvrEntry × ℕ). (length r.0 ≡ 0) × ((v : ℕ) (entry : OvrEntry) → slice_get r.0 v ≡ Some entry → IsReadWhole bytes entry)) (ok_is ([], at) read is) (refl, λ v entry found. absurd (cc))
entries_sound (suc n) bytes at read is =
    let a = bind_ok (entry_at bytes at) (λ entry. entries_from n bytes (entry_end entry) >>= λ others. Ok (entry ∷ others.0, others.1)) read is in
    let b = bind_ok (entries_from n bytes (entry_end a.0)) (λ others. Ok (a.0 ∷ others.0, others.1)) read a.2 in
    let rest = entries_sound n bytes (entry_end a.0) b.0 b.1 in
    subst (λ (r : List OvrEntry × ℕ). (length r.0 ≡ suc n) × ((v : ℕ) (entry : OvrEntry) → slice_get r.0 v ≡ Some entry → IsReadWhole bytes entry)) (ok_is (a.0 ∷ b.0.0, b.0.1) read b.2)
    (ap suc rest.0, each a.0 b.0.0 (entry_sound bytes at a.0 a.1) rest.1)
  where
    each : (first : OvrEntry) (others : List OvrEntry) → IsReadWhole bytes first → ((v : ℕ) (entry : OvrEntry) → slice_get others v ≡ Some entry → IsReadWhole bytes entry) → (v : ℕ) (entry : OvrEntry) → slice_get (first ∷ others) v ≡ Some entry → IsReadWhole bytes entry
    each first others here rest zero entry found = let same : first ≡ entry = cc in subst (IsReadWhole bytes) same here
    each first others here rest (suc v) entry found = rest v entry found

count_small : (bytes : List ℕ) (count : ℕ) → count_at bytes ≡ Ok count → count ≤ 256
unfolding count_at
count_small bytes count read =
    let a = bind_ok (letters_at bytes) (λ behind. word_where (λ version. version == 1) bytes behind >>= λ _. word_where is_overlay_count bytes (behind + 2)) count read in
    let b = bind_ok (word_where (λ version. version == 1) bytes a.0) (λ _. word_where is_overlay_count bytes (a.0 + 2)) count a.2 in
    let rule = both (nat_lt 0 count) (nat_le count 256) (word_ok is_overlay_count bytes (a.0 + 2) count b.2).0 in
    grind (arith, nat_tests, rule.1)

pub read_sound : (bytes : List ℕ) (index : List OvrEntry) → reading bytes ≡ Ok index → (length index ≤ 256) × ((v : ℕ) (entry : OvrEntry) → slice_get index v ≡ Some entry → IsReadWhole bytes entry)
unfolding reading
read_sound bytes index read =
    let a = bind_ok (count_at bytes) (λ count. entries_from count bytes 8 >>= λ entries. cond (nat_lt entries.1 (length bytes)) (Err entries.1) (Ok entries.0)) index read in
    let b = bind_ok (entries_from a.0 bytes 8) (λ entries. cond (nat_lt entries.1 (length bytes)) (Err entries.1) (Ok entries.0)) index a.2 in
    let c = guard_ok (nat_lt b.0.1 (length bytes)) b.0.1 b.0.0 index b.2 in
    let few = count_small bytes a.0 a.1 in
    let h = entries_sound a.0 bytes 8 b.0 b.1 in
    subst (λ (entries : List OvrEntry). (length entries ≤ 256) × ((v : ℕ) (entry : OvrEntry) → slice_get entries v ≡ Some entry → IsReadWhole bytes entry)) c.1 (omega (arith, few, h.0), h.1)

-- Reading parts one after another, as a loop does.
use Rattle.std.proofs.Common.{◌≡◌, ℕ, zero, suc, ◌+◌, ◌-◌, ◌*◌, ◌<◌, ◌≤◌, List, [], ◌∷◌, ◌++◌, length, Result, Ok, Err, refl, sym, ap, ◌∙◌, append_assoc, arith}
use Rattle.std.proofs.lemmas.List.{append-nil}
use Rattle.overlay_file.specs.declared.error.OvrError.{OvrError}
use Rattle.overlay_file.specs.declared.error.OvrError.TheVariants as error
use Rattle.overlay_file.specs.declared.overlay.OvrEntry.{OvrEntry}
use Rattle.overlay_file.specs.Index.{entry_end}
use Rattle.overlay_file.specs.Parts.{◌>>=◌, byte_where, word_where, Fails}
use Rattle.overlay_file.specs.Reading.{stands_in_name, name_from, stands_as_fixup, fixups_from, entry_at, entries_from}

-- names, byte by byte
name-step : (k size : ℕ) (bytes : List ℕ) (at : ℕ) → k < size → name_from k (size - k) bytes (at + k) ≡ (byte_where (stands_in_name k) bytes (at + k) >>= λ _. name_from (k + 1) (size - (k + 1)) bytes (at + (k + 1)))
unfolding name_from
name-step k size bytes at below =
    let left : size - k ≡ suc (size - (k + 1)) = omega arith in
    let next : at + k + 1 ≡ at + (k + 1) = omega arith in
    rw (left, next) refl

pub name-next : (k size : ℕ) (bytes : List ℕ) (at byte : ℕ) (total : Result ℕ ℕ) → k < size → byte_where (stands_in_name k) bytes (at + k) ≡ Ok byte
    → name_from k (size - k) bytes (at + k) ≡ total → name_from (k + 1) (size - (k + 1)) bytes (at + (k + 1)) ≡ total
name-next k size bytes at byte total below read so_far =
    sym (name-step k size bytes at below ∙ ap (λ r. r >>= λ _. name_from (k + 1) (size - (k + 1)) bytes (at + (k + 1))) read) ∙ so_far

pub name-stops : (e : OvrError) (k size : ℕ) (bytes : List ℕ) (at : ℕ) (total : Result ℕ ℕ) → k < size → Fails e (byte_where (stands_in_name k) bytes (at + k))
    → name_from k (size - k) bytes (at + k) ≡ total → Fails e total
name-stops error.NoMemory k size bytes at total below fails so_far = tt
name-stops (error.Damaged place) k size bytes at total below fails so_far =
    sym so_far ∙ name-step k size bytes at below ∙ ap (λ r. r >>= λ _. name_from (k + 1) (size - (k + 1)) bytes (at + (k + 1))) fails

pub name-ends : (k size : ℕ) (bytes : List ℕ) (at : ℕ) (total : Result ℕ ℕ) → k ≡ size → name_from k (size - k) bytes (at + k) ≡ total → total ≡ Ok (at + size)
unfolding name_from
name-ends k size bytes at total all so_far =
    let left : size - k ≡ 0 = omega arith in
    let here : at + k ≡ at + size = omega arith in
    let end : name_from k (size - k) bytes (at + k) ≡ Ok (at + size) = rw (left, here) refl in
    sym so_far ∙ end

-- fixups
fixups-step : (size least left : ℕ) (bytes : List ℕ) (at : ℕ) → 0 < left → fixups_from size least left bytes at ≡ (word_where (stands_as_fixup size least) bytes at >>= λ fixup. fixups_from size (fixup + 2) (left - 1) bytes (at + 2))
unfolding fixups_from
fixups-step size least left bytes at some =
    let one : left ≡ suc (left - 1) = omega arith in
    ap (λ (n : ℕ). fixups_from size least n bytes at) one

pub fixups-next : (size least count k fixup : ℕ) (bytes : List ℕ) (at : ℕ) (total : Result ℕ ℕ) → k < count → word_where (stands_as_fixup size least) bytes at ≡ Ok fixup
    → fixups_from size least (count - k) bytes at ≡ total → fixups_from size (fixup + 2) (count - (k + 1)) bytes (at + 2) ≡ total
fixups-next size least count k fixup bytes at total below read so_far =
    let left : count - k - 1 ≡ count - (k + 1) = omega arith in
    ap (λ (left : ℕ). fixups_from size (fixup + 2) left bytes (at + 2)) (sym left)
    ∙ sym (fixups-step size least (count - k) bytes at (omega arith) ∙ ap (λ r. r >>= λ fixup. fixups_from size (fixup + 2) (count - k - 1) bytes (at + 2)) read) ∙ so_far

pub fixups-stop : (e : OvrError) (size least count k : ℕ) (bytes : List ℕ) (at : ℕ) (total : Result ℕ ℕ) → k < count → Fails e (word_where (stands_as_fixup size least) bytes at)
    → fixups_from size least (count - k) bytes at ≡ total → Fails e total
fixups-stop error.NoMemory size least count k bytes at total below fails so_far = tt
fixups-stop (error.Damaged place) size least count k bytes at total below fails so_far =
    sym so_far ∙ fixups-step size least (count - k) bytes at (omega arith) ∙ ap (λ r. r >>= λ fixup. fixups_from size (fixup + 2) (count - k - 1) bytes (at + 2)) fails

pub fixups-end : (size least count k : ℕ) (bytes : List ℕ) (at : ℕ) (total : Result ℕ ℕ) → count ≤ k → fixups_from size least (count - k) bytes at ≡ total → total ≡ Ok at
unfolding fixups_from
fixups-end size least count k bytes at total all so_far =
    let left : count - k ≡ 0 = omega arith in
    let end : fixups_from size least (count - k) bytes at ≡ Ok at = rw left refl in
    sym so_far ∙ end

-- overlays: what was read before, and what is still read
abbrev pub with_front : List OvrEntry → Result (List OvrEntry × ℕ) ℕ → Result (List OvrEntry × ℕ) ℕ
with_front front read = read >>= λ others. Ok (front ++ others.0, others.1)

regroup : (front : List OvrEntry) (entry : OvrEntry) (read : Result (List OvrEntry × ℕ) ℕ) → with_front front (read >>= λ others. Ok (entry ∷ others.0, others.1)) ≡ with_front (front ++ entry ∷ []) read
regroup front entry (Ok x) = ap (λ (entries : List OvrEntry). Ok (entries, x.1)) (simp append_assoc)
regroup front entry (Err at) = refl

pub entries-next : (front : List OvrEntry) (count k : ℕ) (bytes : List ℕ) (at : ℕ) (entry : OvrEntry) (total : Result (List OvrEntry × ℕ) ℕ) → k < count → entry_at bytes at ≡ Ok entry
    → with_front front (entries_from (count - k) bytes at) ≡ total → with_front (front ++ entry ∷ []) (entries_from (count - (k + 1)) bytes (entry_end entry)) ≡ total
unfolding entries_from
entries-next front count k bytes at entry total below read so_far =
    let left : count - k ≡ suc (count - (k + 1)) = omega arith in
    let one : with_front front (entries_from (count - k) bytes at) ≡ with_front (front ++ entry ∷ []) (entries_from (count - (k + 1)) bytes (entry_end entry)) =
    rw (left, read) (regroup front entry (entries_from (count - (k + 1)) bytes (entry_end entry))) in
    sym one ∙ so_far

pub entries-stop : (e : OvrError) (front : List OvrEntry) (count k : ℕ) (bytes : List ℕ) (at : ℕ) (total : Result (List OvrEntry × ℕ) ℕ) → k < count → Fails e (entry_at bytes at)
    → with_front front (entries_from (count - k) bytes at) ≡ total → Fails e total
unfolding entries_from
entries-stop error.NoMemory front count k bytes at total below fails so_far = tt
entries-stop (error.Damaged place) front count k bytes at total below fails so_far =
    let left : count - k ≡ suc (count - (k + 1)) = omega arith in
    let one : with_front front (entries_from (count - k) bytes at) ≡ Err place = rw (left, fails) refl in
    sym so_far ∙ one

pub entries-end : (front : List OvrEntry) (count k : ℕ) (bytes : List ℕ) (at : ℕ) (total : Result (List OvrEntry × ℕ) ℕ) → count ≤ k
    → with_front front (entries_from (count - k) bytes at) ≡ total → total ≡ Ok (front, at)
unfolding entries_from
entries-end front count k bytes at total all so_far =
    let left : count - k ≡ 0 = omega arith in
    let one : with_front front (entries_from (count - k) bytes at) ≡ Ok (front, at) = rw left (ap (λ (entries : List OvrEntry). Ok (entries, at)) (append-nil front)) in
    sym so_far ∙ one

-- Parts of a file, one after another.
use Rattle.std.proofs.Common.{◌≡◌, ℕ, zero, suc, ◌+◌, ◌-◌, ◌*◌, ◌%◌, ◌<◌, ◌≤◌, List, [], ◌∷◌, ◌++◌, length, get_or, take, drop, Option, Some, None, IfSome, refl, sym, ap, ap₂, subst, ◌∙◌, length-take, length-drop, arith}
use Rattle.std.proofs.Math.Seq.{take-add}
use Rattle.std.proofs.lemmas.List.{drop-drop, take-append-le, take_at, drop_at, get_or-take, get_or-drop}
use Rattle.cpu_8086.specs.Memory.{next_offset, store_byte}
use Rattle.cpu_8086.specs.Process.{with_bytes}
use Rattle.cpu_8086.specs.State.{State}
use Rattle.mz_file.specs.Words.{word_at, words_at}
use Rattle.tp_outside.specs.Folder.{Folder, bytes_of, IsPartAt}
use Rattle.overlay_manager.specs.Code.{part_of, with_fixup, with_fixups}

pub part-append : (bytes : List ℕ) (place done count : ℕ) → part_of bytes place (done + count) ≡ part_of bytes place done ++ part_of bytes (place + done) count
part-append bytes place done count = take-add done count (drop place bytes) ∙ ap (λ xs. part_of bytes place done ++ take count xs) (drop-drop done place bytes)

-- bytes put one after another
pub with_bytes-append : (memory : List ℕ) (segment offset : ℕ) (xs ys : List ℕ) → offset < 65536 → with_bytes memory segment offset (xs ++ ys) ≡ with_bytes (with_bytes memory segment offset xs) segment ((offset + length xs) % 65536) ys
with_bytes-append memory segment offset [] ys small =
    let here : offset ≡ (offset + 0) % 65536 = omega arith in
    ap (λ (offset : ℕ). with_bytes memory segment offset ys) here
with_bytes-append memory segment offset (x ∷ xs) ys small =
    let next : (next_offset offset + length xs) % 65536 ≡ (offset + suc (length xs)) % 65536 = omega arith in
    with_bytes-append (store_byte memory segment offset x) segment (next_offset offset) xs ys (omega arith)
    ∙ ap (λ (at : ℕ). with_bytes (with_bytes (store_byte memory segment offset x) segment (next_offset offset) xs) segment at ys) next

-- what is filled, after one read more: a part was read into `into`, and a rest stays behind it
pub filled-next : (known now : Option Folder) (name into part rest : List ℕ) (place done count : ℕ) → now ≡ known → done ≤ length into → count ≤ length part
    → IfSome known (λ held. take done into ≡ part_of (bytes_of held name) place done) → IfSome now (λ held. IsPartAt (bytes_of held name) (place + done) count part)
    → IfSome known (λ held. take (done + count) (take done into ++ (part ++ rest)) ≡ part_of (bytes_of held name) place (done + count))
filled-next None now name into part rest place done count same inside fits before read = tt
filled-next (Some held) now name into part rest place done count same inside fits before read =
    let P : Option Folder → Type 0 = λ known. IfSome known (λ held. IsPartAt (bytes_of held name) (place + done) count part) in
    let is_part = subst P same read in
    let size : length (take done into) ≡ done = omega (arith, length-take done into) in
    let front : take (done + count) (take done into ++ (part ++ rest)) ≡ take done into ++ take count (part ++ rest) =
    take-add done count (take done into ++ (part ++ rest)) ∙ ap₂ (λ (xs ys : List ℕ). xs ++ take count ys) (take_at (take done into) (part ++ rest) done size) (drop_at (take done into) (part ++ rest) done size) in
    front ∙ ap₂ (λ (xs ys : List ℕ). xs ++ ys) before (take-append-le count part rest fits ∙ is_part.part) ∙ sym (part-append (bytes_of held name) place done count)

-- what is loaded, after one part more
pub loaded-next : (known now : Option Folder) (name filled : List ℕ) (first before after : State) (segment place done count : ℕ) → now ≡ known → 0 < count → done < 65536 → length filled ≡ count
    → IfSome known (λ held. before ≡ record first { memory = with_bytes first.memory segment 0 (part_of (bytes_of held name) place done) }) → IfSome now (λ held. filled ≡ part_of (bytes_of held name) (place + done) count)
    → after ≡ record before { memory = with_bytes before.memory segment done filled } → IfSome known (λ held. after ≡ record first { memory = with_bytes first.memory segment 0 (part_of (bytes_of held name) place (done + count)) })
loaded-next None now name filled first before after segment place done count same some small size so_far told put = tt
loaded-next (Some held) now name filled first before after segment place done count same some small size so_far told put =
    let P : Option Folder → Type 0 = λ known. IfSome known (λ held. filled ≡ part_of (bytes_of held name) (place + done) count) in
    let is_part = subst P same told in
    let bytes = bytes_of held name in
    let front : List ℕ = part_of bytes place done in
    let inside : place + done + count ≤ length bytes = omega (arith, ap length is_part, length-take count (drop (place + done) bytes), length-drop (place + done) bytes) in
    let front_size : length front ≡ done = omega (arith, length-take done (drop place bytes), length-drop place bytes) in
    let offset : (0 + length front) % 65536 ≡ done = omega arith in
    let whole : with_bytes first.memory segment 0 (part_of bytes place (done + count)) ≡ with_bytes (with_bytes first.memory segment 0 front) segment done filled =
    ap (with_bytes first.memory segment 0) (part-append bytes place done count)
    ∙ with_bytes-append first.memory segment 0 front (part_of bytes (place + done) count) (omega arith)
    ∙ ap₂ (λ (at : ℕ) (xs : List ℕ). with_bytes (with_bytes first.memory segment 0 front) segment at xs) offset (sym is_part) in
    put ∙ ap (λ (s : State). let t : State = record s { memory = with_bytes s.memory segment done filled } in t) so_far ∙ ap (λ memory. let t : State = record first { memory = memory } in t) (sym whole)

-- a part that was read whole lies inside the file
pub inside_file : (bytes filled : List ℕ) (place count : ℕ) → 0 < count → length filled ≡ count → filled ≡ part_of bytes place count → place + count ≤ length bytes
inside_file bytes filled place count some size is_part = omega (arith, ap length is_part, length-take count (drop place bytes), length-drop place bytes)

pub loaded-whole : (known now : Option Folder) (name filled : List ℕ) (place done count : ℕ) → now ≡ known → 0 < count → length filled ≡ count → IfSome now (λ held. filled ≡ part_of (bytes_of held name) (place + done) count)
    → IfSome known (λ held. 0 < done + count → place + (done + count) ≤ length (bytes_of held name))
loaded-whole None now name filled place done count same some size told = tt
loaded-whole (Some held) now name filled place done count same some size told = λ begun.
    let P : Option Folder → Type 0 = λ known. IfSome known (λ held. filled ≡ part_of (bytes_of held name) (place + done) count) in
    let inside = inside_file (bytes_of held name) filled (place + done) count some size (subst P same told) in
    omega arith

pub fixed-whole : (known now : Option Folder) (name filled : List ℕ) (place done count : ℕ) → now ≡ known → 0 < count → length filled ≡ 2 * count → IfSome now (λ held. filled ≡ part_of (bytes_of held name) (place + 2 * done) (2 * count))
    → IfSome known (λ held. 0 < done + count → place + 2 * (done + count) ≤ length (bytes_of held name))
fixed-whole None now name filled place done count same some size told = tt
fixed-whole (Some held) now name filled place done count same some size told = λ begun.
    let P : Option Folder → Type 0 = λ known. IfSome known (λ held. filled ≡ part_of (bytes_of held name) (place + 2 * done) (2 * count)) in
    let inside = inside_file (bytes_of held name) filled (place + 2 * done) (2 * count) (omega arith) size (subst P same told) in
    omega arith

-- the words that are left, one by one
pub words_at-step : (bytes : List ℕ) (k count : ℕ) → k < count → words_at bytes (2 * k) (count - k) ≡ word_at bytes (2 * k) ∷ words_at bytes (2 * (k + 1)) (count - (k + 1))
words_at-step bytes k count below =
    let left : count - k ≡ suc (count - (k + 1)) = omega arith in
    let next : 2 * k + 2 ≡ 2 * (k + 1) = omega arith in
    ap (λ (n : ℕ). words_at bytes (2 * k) n) left ∙ ap (λ (at : ℕ). word_at bytes (2 * k) ∷ words_at bytes at (count - (k + 1))) next

-- words one after another, and fixups made one after another
pub words_at-append : (bytes : List ℕ) (place done count : ℕ) → words_at bytes place (done + count) ≡ words_at bytes place done ++ words_at bytes (place + 2 * done) count
words_at-append bytes place zero count =
    let none : 0 + count ≡ count = omega arith in
    let here : place ≡ place + 2 * 0 = omega arith in
    ap (words_at bytes place) none ∙ ap (λ (at : ℕ). words_at bytes at count) here
words_at-append bytes place (suc done) count =
    let one : suc done + count ≡ suc (done + count) = omega arith in
    let next : place + 2 + 2 * done ≡ place + 2 * suc done = omega arith in
    ap (words_at bytes place) one
    ∙ ap (λ words. word_at bytes place ∷ words) (words_at-append bytes (place + 2) done count ∙ ap (λ (at : ℕ). words_at bytes (place + 2) done ++ words_at bytes at count) next)

pub with_fixups-append : (size segment : ℕ) (memory first others : List ℕ) → with_fixups size segment memory (first ++ others) ≡ with_fixups size segment (with_fixups size segment memory first) others
with_fixups-append size segment memory [] others = refl
with_fixups-append size segment memory (fixup ∷ first) others = with_fixups-append size segment (with_fixup size segment memory fixup) first others

-- the words of a part of a file are those of the file
word-part : (bytes : List ℕ) (place count at : ℕ) → at + 2 ≤ count → word_at (part_of bytes place count) at ≡ word_at bytes (place + at)
word-part bytes place count at fits =
    let next : place + (at + 1) ≡ place + at + 1 = omega arith in
    let low = get_or-take count (drop place bytes) at 0 (omega arith) ∙ get_or-drop place bytes at 0 in
    let high = get_or-take count (drop place bytes) (at + 1) 0 (omega arith) ∙ get_or-drop place bytes (at + 1) 0 ∙ ap (λ (at : ℕ). get_or bytes at 0) next in
    ap₂ (λ (low high : ℕ). low + 256 * high) low high

pub words-part : (bytes : List ℕ) (place count at words : ℕ) → at + 2 * words ≤ count → words_at (part_of bytes place count) at words ≡ words_at bytes (place + at) words
words-part bytes place count at zero fits = refl
words-part bytes place count at (suc words) fits =
    let next : place + (at + 2) ≡ place + at + 2 = omega arith in
    ap₂ (λ (word : ℕ) (others : List ℕ). word ∷ others) (word-part bytes place count at (omega arith)) (words-part bytes place count (at + 2) words (omega arith) ∙ ap (λ (at : ℕ). words_at bytes at words) next)

-- fixups made, after one part more
pub fixed-next : (known now : Option Folder) (name filled : List ℕ) (first before after : State) (size segment place done count : ℕ) → now ≡ known
    → IfSome known (λ held. before ≡ record first { memory = with_fixups size segment first.memory (words_at (bytes_of held name) place done) }) → IfSome now (λ held. filled ≡ part_of (bytes_of held name) (place + 2 * done) (2 * count))
    → after ≡ record before { memory = with_fixups size segment before.memory (words_at filled 0 count) } → IfSome known (λ held. after ≡ record first { memory = with_fixups size segment first.memory (words_at (bytes_of held name) place (done + count)) })
fixed-next None now name filled first before after size segment place done count same so_far told made = tt
fixed-next (Some held) now name filled first before after size segment place done count same so_far told made =
    let P : Option Folder → Type 0 = λ known. IfSome known (λ held. filled ≡ part_of (bytes_of held name) (place + 2 * done) (2 * count)) in
    let is_part = subst P same told in
    let bytes = bytes_of held name in
    let front : List ℕ = words_at bytes place done in
    let here : place + 2 * done + 0 ≡ place + 2 * done = omega arith in
    let words : words_at filled 0 count ≡ words_at bytes (place + 2 * done) count =
    ap (λ (xs : List ℕ). words_at xs 0 count) is_part ∙ words-part bytes (place + 2 * done) (2 * count) 0 count (omega arith) ∙ ap (λ (at : ℕ). words_at bytes at count) here in
    let whole : with_fixups size segment first.memory (words_at bytes place (done + count)) ≡ with_fixups size segment (with_fixups size segment first.memory front) (words_at filled 0 count) =
    ap (with_fixups size segment first.memory) (words_at-append bytes place done count)
    ∙ with_fixups-append size segment first.memory front (words_at bytes (place + 2 * done) count)
    ∙ ap (with_fixups size segment (with_fixups size segment first.memory front)) (sym words) in
    made ∙ ap (λ (s : State). let t : State = record s { memory = with_fixups size segment s.memory (words_at filled 0 count) } in t) so_far ∙ ap (λ memory. let t : State = record first { memory = memory } in t) (sym whole)

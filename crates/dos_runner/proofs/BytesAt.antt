-- Bytes in a row of memory, whose offsets wrap.
use Rattle.std.proofs.Common.{◌≡◌, ℕ, zero, suc, ◌+◌, ◌-◌, ◌%◌, ◌<◌, ◌≤◌, List, ◌∷◌, ◌++◌, length, get_or, take, refl, sym, ap, ◌∙◌, arith}
use Rattle.std.specs.Prelude.{Option}
use Rattle.std.specs.Io.KnownBytes.{append_known}
use Rattle.std.proofs.Math.Seq.{take-append-add}
use Rattle.std.proofs.lemmas.List.{take-append-le}
use Rattle.tp_outside.specs.Streams.{TakesPrefix}
use Rattle.tp_outside.proofs.Known.{append_known-append_known}
use Rattle.cpu_8086.specs.Memory.{load_byte, next_offset}
use Rattle.cpu_8086.specs.Process.{bytes_at}

pub length-bytes_at : (m : List ℕ) (s o n : ℕ) → length (bytes_at m s o n) ≡ n
length-bytes_at m s o zero = refl
length-bytes_at m s o (suc n) = ap suc (length-bytes_at m s (next_offset o) n)

wrap_next : (o a : ℕ) → ((o + 1) % 65536 + a) % 65536 ≡ (o + suc a) % 65536
wrap_next o a = omega arith

-- the byte at a place of the row
pub get_or-bytes_at : (m : List ℕ) (s o n k : ℕ) → k < n → o < 65536 → get_or (bytes_at m s o n) k 0 ≡ load_byte m s ((o + k) % 65536)
get_or-bytes_at m s o zero k h fits = absurd (omega arith)
get_or-bytes_at m s o (suc n) zero h fits = let e : o ≡ (o + 0) % 65536 = omega arith in ap (load_byte m s) e
get_or-bytes_at m s o (suc n) (suc k) h fits = get_or-bytes_at m s (next_offset o) n k (omega arith) (omega arith) ∙ ap (load_byte m s) (wrap_next o k)

-- one row and the next
pub bytes_at-add : (m : List ℕ) (s o a b : ℕ) → o < 65536 → bytes_at m s o (a + b) ≡ bytes_at m s o a ++ bytes_at m s ((o + a) % 65536) b
bytes_at-add m s o zero b fits =
    let e : 0 + b ≡ b = omega arith in
    let w : o ≡ (o + 0) % 65536 = omega arith in
    ap (bytes_at m s o) e ∙ ap (λ x. bytes_at m s x b) w
bytes_at-add m s o (suc a) b fits =
    let e : suc a + b ≡ suc (a + b) = omega arith in
    ap (bytes_at m s o) e ∙ ap (λ bs. load_byte m s o ∷ bs) (bytes_at-add m s (next_offset o) a b (omega arith) ∙ ap (λ x. bytes_at m s (next_offset o) a ++ bytes_at m s x b) (wrap_next o a))

-- a sink that took the first bytes of a row takes the next ones
pub more_written : (m : List ℕ) (s o done size : ℕ) (part : List ℕ) (old now new : Option (List ℕ)) → o < 65536 → now ≡ append_known old (bytes_at m s o done) → part ≡ bytes_at m s ((o + done) % 65536) size → new ≡ append_known now part → new ≡ append_known old (bytes_at m s o (done + size))
more_written m s o done size part old now new fits before is_part step =
    step ∙ ap (append_known now) is_part ∙ ap (λ k. append_known k (bytes_at m s ((o + done) % 65536) size)) before
    ∙ append_known-append_known old (bytes_at m s o done) (bytes_at m s ((o + done) % 65536) size)
    ∙ ap (append_known old) (sym (bytes_at-add m s o done size fits))

-- the first bytes of a row, as the bytes before a part of it and the first ones of that part
front_of_row : (m : List ℕ) (s o done size rest k : ℕ) → o < 65536 → k ≤ size → take (done + k) (bytes_at m s o (done + (size + rest))) ≡ bytes_at m s o done ++ take k (bytes_at m s ((o + done) % 65536) size)
front_of_row m s o done size rest k fits within =
    let a = bytes_at m s o done in
    let b = bytes_at m s ((o + done) % 65536) size in
    let c = bytes_at m s (((o + done) % 65536 + size) % 65536) rest in
    let whole : bytes_at m s o (done + (size + rest)) ≡ a ++ (b ++ c) = bytes_at-add m s o done (size + rest) fits ∙ ap (λ bs. a ++ bs) (bytes_at-add m s ((o + done) % 65536) size rest (omega arith)) in
    let long : length a ≡ done = length-bytes_at m s o done in
    let short : length b ≡ size = length-bytes_at m s ((o + done) % 65536) size in
    let place : done + k ≡ length a + k = omega (arith, long) in
    ap (take (done + k)) whole ∙ ap (λ n. take n (a ++ (b ++ c))) place ∙ take-append-add a (b ++ c) k
    ∙ ap (λ bs. a ++ bs) (take-append-le k b c (omega (arith, short)))

-- a sink that took the first bytes of a row took some of the next ones
pub prefix_of_row : (m : List ℕ) (s o done size count : ℕ) (part : List ℕ) (old now new : Option (List ℕ)) → o < 65536 → done + size ≤ count → now ≡ append_known old (bytes_at m s o done) → part ≡ bytes_at m s ((o + done) % 65536) size → TakesPrefix now new part → TakesPrefix old new (bytes_at m s o count)
prefix_of_row m s o done size count part old now new fits within before is_part step =
    let k : ℕ = step.count in
    let b = bytes_at m s ((o + done) % 65536) size in
    let short : length part ≡ size = ap length is_part ∙ length-bytes_at m s ((o + done) % 65536) size in
    let k_in : k ≤ length part = step.within in
    let k_within : k ≤ size = omega arith in
    let whole : count ≡ done + (size + (count - (done + size))) = omega arith in
    let front : take (done + k) (bytes_at m s o count) ≡ bytes_at m s o done ++ take k b = ap (λ n. take (done + k) (bytes_at m s o n)) whole ∙ front_of_row m s o done size (count - (done + size)) k fits k_within in
    let long : length (bytes_at m s o count) ≡ count = length-bytes_at m s o count in
    record {
      count = done + k;
      within = omega (arith, long);
      taken = step.taken ∙ ap (λ bs. append_known now (take k bs)) is_part ∙ ap (λ known. append_known known (take k b)) before
          ∙ append_known-append_known old (bytes_at m s o done) (take k b) ∙ ap (append_known old) (sym front);
    }

-- What acts say stays the same while the pool grows.
use Rattle.std.proofs.Common.{◌≡◌, ℕ, ◌+◌, ◌≤◌, List, [], ◌∷◌, ◌++◌, length, take, drop, refl, ap, ◌∙◌, arith}
use Rattle.std.specs.List.{All, AllByRecursion}
use Rattle.std.proofs.lemmas.List.{take-append-le, drop-append-le, take_all, map-append, length-drop}
use Rattle.std.proofs.lemmas.List.Sums.{sum_by_push}
use Rattle.std.proofs.lemmas.List.Elements.{recursion_from_All}
use Rattle.std.proofs.Math.Seq.{drop-append_seam}
use Rattle.literal_programs.specs.declared.literal_code.act.Act.{Act}
use Rattle.literal_programs.specs.declared.literal_code.act.Act.TheVariants as act
use Rattle.literal_programs.specs.literal_code.Statement.{write, text_size, size_of}
use Rattle.literal_programs.specs.literal_code.Act.{end_of, IsWithin, statement_of, statements_in}

range-grows : (pool more : List ℕ) (from count : ℕ) → from + count ≤ length pool → take count (drop from (pool ++ more)) ≡ take count (drop from pool)
range-grows pool more from count h =
    let low : from ≤ length pool = omega arith in
    let room : count ≤ length (drop from pool) = omega (arith, length-drop from pool) in
    rw (drop-append-le from pool more low) (take-append-le count (drop from pool) more room)

statement_of-grows : (pool more : List ℕ) (a : Act) → end_of a ≤ length pool → statement_of (pool ++ more) a ≡ statement_of pool a
statement_of-grows pool more (act.Write from count) h = ap write (range-grows pool more from count h)
statement_of-grows pool more (act.Halt code) h = refl

grows_by : (pool more : List ℕ) (acts : List Act) → AllByRecursion (IsWithin (length pool)) acts → statements_in (pool ++ more) acts ≡ statements_in pool acts
grows_by pool more [] h = refl
grows_by pool more (a ∷ others) h = let e = statement_of-grows pool more a (h.0.in_pool) in let f = grows_by pool more others h.1 in cc (e, f)

pub statements_in-grows : (pool more : List ℕ) (acts : List Act) → All (IsWithin (length pool)) acts → statements_in (pool ++ more) acts ≡ statements_in pool acts
statements_in-grows pool more acts h = grows_by pool more acts (recursion_from_All (IsWithin (length pool)) acts h)

last-written : (pool bytes : List ℕ) → statement_of (pool ++ bytes) (act.Write (length pool) (length bytes)) ≡ write bytes
last-written pool bytes = ap write (rw (drop-append_seam pool bytes) (take_all (length bytes) bytes (omega arith)))

-- a text at the end of the pool, and the act that writes it
pub statements_in-write : (pool bytes : List ℕ) (acts : List Act) → All (IsWithin (length pool)) acts → statements_in (pool ++ bytes) (acts ++ act.Write (length pool) (length bytes) ∷ []) ≡ statements_in pool acts ++ write bytes ∷ []
statements_in-write pool bytes acts h =
    map-append (statement_of (pool ++ bytes)) acts (act.Write (length pool) (length bytes) ∷ [])
    ∙ cc (statements_in-grows pool bytes acts h, last-written pool bytes)

pub statements_in-write_at : (pool bytes : List ℕ) (acts : List Act) (from count : ℕ) → from ≡ length pool → count ≡ length bytes → All (IsWithin from) acts → statements_in (pool ++ bytes) (acts ++ act.Write from count ∷ []) ≡ statements_in pool acts ++ write bytes ∷ []
statements_in-write_at pool bytes acts from count e f h = rw (e, f) (statements_in-write pool bytes acts (rw e at h))

-- a pool that has no more than what the acts write, and one act more
pub full-write : (pool bytes : List ℕ) (acts : List Act) (from count new : ℕ) → from ≡ length pool → count ≡ length bytes → All (IsWithin from) acts → from ≡ size_of (statements_in pool acts) → new ≡ from + count → new ≡ size_of (statements_in (pool ++ bytes) (acts ++ act.Write from count ∷ []))
full-write pool bytes acts from count new e f within full grown =
    let says = statements_in-write_at pool bytes acts from count e f within in
    let more : size_of (statements_in pool acts ++ write bytes ∷ []) ≡ size_of (statements_in pool acts) + length bytes = sum_by_push text_size (statements_in pool acts) (write bytes) in
    rw says (omega (arith, more, full, grown, f))

-- Code and texts that lie in memory.
use Rattle.std.proofs.Common.{◌≡◌, ℕ, zero, suc, ◌+◌, ◌*◌, ◌%◌, ◌<◌, ◌≤◌, List, [], ◌∷◌, ◌++◌, length, get_or, refl, sym, ap, ◌∙◌, arith, drop-cons, length-append}
use Rattle.std.specs.Prelude.{slice_index, take, drop}
use Rattle.std.specs.List.{AllByRecursion}
use Rattle.std.proofs.lemmas.List.{get_or_append_left, get_or-append-add}
use Rattle.x86_table.specs.declared.instr.Instr.{Instr}
use Rattle.x86_table.specs.Spelling.{spelling}
use Rattle.cpu_8086.specs.Memory.{load_byte}
use Rattle.cpu_8086.specs.Process.{bytes_at}
use Rattle.literal_programs.specs.declared.literal_code.act.Act.{Act}
use Rattle.literal_programs.specs.declared.literal_code.act.Act.TheVariants as act
use Rattle.literal_programs.specs.literal_code.Act.{IsWithin}
use Rattle.literal_programs.specs.literal_code.Code.{spelled}
use Rattle.literal_programs.proofs.literal_code.Stands.{Stands}
use Rattle.literal_programs.proofs.literal_code.Acts.{Texts}

-- bytes that lie in memory stand there as instructions
pub stands_from : (m : List ℕ) (o : ℕ) (is : List Instr) → ((k : ℕ) → k < length (spelled is) → slice_index m (1792 + o + k) ≡ slice_index (spelled is) k) → Stands m o is
stands_from m o [] lies = tt
stands_from m o (i ∷ is) lies =
    let n = length (spelling i) in
    let whole : length (spelling i ++ spelled is) ≡ n + length (spelled is) = length-append (spelling i) (spelled is) in (
      λ k h. lies k (omega (arith, whole)) ∙ get_or_append_left (spelling i) (spelled is) 0 k h,
      stands_from m (o + n) is (λ k h.
          let e : 1792 + (o + n) + k ≡ 1792 + o + (n + k) = omega arith in
          ap (λ x. slice_index m x) e ∙ lies (n + k) (omega (arith, whole)) ∙ get_or-append-add (spelling i) (spelled is) k 0),
    )

pub stands_front : (m : List ℕ) (o : ℕ) (is js : List Instr) → Stands m o (is ++ js) → Stands m o is
stands_front m o [] js stands = tt
stands_front m o (i ∷ is) js stands = (stands.0, stands_front m (o + length (spelling i)) is js stands.1)

-- a text of the pool, read through the data segment
pub text_lies : (m : List ℕ) (base d : ℕ) (pool : List ℕ) → 16 * d ≡ base → base + 65536 ≤ 1048576 → length pool ≤ 8192 → ((k : ℕ) → k < length pool → slice_index m (base + k) ≡ slice_index pool k) → (count from : ℕ) → from + count ≤ length pool → bytes_at m d from count ≡ take count (drop from pool)
unfolding load_byte
text_lies m base d pool same low short lies zero from within = refl
text_lies m base d pool same low short lies (suc n) from within =
    let place : (16 * d + from) % 1048576 ≡ base + from = omega arith in
    let next : (from + 1) % 65536 ≡ from + 1 = omega arith in
    let first : slice_index m ((16 * d + from) % 1048576) ≡ slice_index pool from = ap (λ x. slice_index m x) place ∙ lies from (omega arith) in
    let rest = text_lies m base d pool same low short lies n (from + 1) (omega arith) in
    let more : suc from ≡ from + 1 = omega arith in
    let front : drop from pool ≡ get_or pool from 0 ∷ drop (from + 1) pool = drop-cons pool from 0 (omega arith) ∙ ap (λ x. get_or pool from 0 ∷ drop x pool) more in
    ap (λ b. b ∷ bytes_at m d ((from + 1) % 65536) n) first
    ∙ ap (λ x. get_or pool from 0 ∷ bytes_at m d x n) next
    ∙ ap (λ bs. get_or pool from 0 ∷ bs) rest
    ∙ sym (ap (take (suc n)) front)

-- the texts of acts whose bytes lie in the pool
pub texts_lie : (m : List ℕ) (d : ℕ) (pool : List ℕ) (acts : List Act) → ((count from : ℕ) → from + count ≤ length pool → bytes_at m d from count ≡ take count (drop from pool)) → AllByRecursion (IsWithin (length pool)) acts → Texts m d pool acts
texts_lie m d pool [] reads within = tt
texts_lie m d pool (act.Write from count ∷ acts) reads within = (reads count from within.0.in_pool, texts_lie m d pool acts reads within.1)
texts_lie m d pool (act.Halt code ∷ acts) reads within = (within.0.code, texts_lie m d pool acts reads within.1)

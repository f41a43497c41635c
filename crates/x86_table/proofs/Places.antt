-- Where lines and labels lie.
use Rattle.std.proofs.lemmas.Option.{slice_get-get_or}
use Rattle.std.proofs.lemmas.List.{take_more}
use Rattle.std.proofs.Math.Seq.{drop-cons}
use Rattle.std.specs.Prelude.{ℤ}
use Rattle.std.proofs.Common.{suc, get_or, ap, sym, ◌∙◌, append_assoc, length-append, Option, Some, None, ◌≡◌, ℕ, ◌+◌, ◌≤◌, ◌<◌, Bool, true, false, List, [], ◌∷◌, ◌++◌, length, drop, take, arith, refl}
use Rattle.std.specs.Prelude.{if◌then◌else◌}
use Rattle.x86_table.specs.declared.line.Line.{Line}
use Rattle.x86_table.specs.declared.line.Line.TheVariants.{One, Label, JumpShort, JumpNear, CallNear}
use Rattle.x86_table.specs.Lines.{line_size, code_size, places_from, marks, label_from, label_place, line_instr, spelling_if, bytes_from, assembled, LineReaches, ReachesFrom, IsTooFarAt, IsTooFar}
use Rattle.x86_table.proofs.Lengths.{length-word_bytes}

if_within : (b : Bool) (m n p q : ℕ) → p ≤ m → m ≤ q → p ≤ n → n ≤ q → (p ≤ (if b then m else n)) × ((if b then m else n) ≤ q)
if_within true m n p q a b c d = (a, b)
if_within false m n p q a b c d = (c, d)

-- a label lies within the code
pub label_from-within : (p : ℕ) (xs : List Line) (l : ℕ) → (p ≤ label_from p xs l) × (label_from p xs l ≤ p + code_size xs)
label_from-within p [] l = omega arith
label_from-within p (x ∷ xs) l =
    let h = label_from-within (p + line_size x) xs l in
    if_within (marks l x) p (label_from (p + line_size x) xs l) p (p + (line_size x + code_size xs)) (omega arith) (omega arith) (omega arith) (omega arith)

pub label_within : (lines : List Line) (l : ℕ) → label_place lines l ≤ code_size lines
label_within lines l =
    let h = label_from-within 0 lines l in
    omega arith

pub length-line : (labels : ℕ → ℕ) (p : ℕ) (x : Line) → length (spelling_if (line_instr labels p x)) ≡ line_size x
length-line labels p (One i) = refl
length-line labels p (Label l) = refl
length-line labels p (JumpShort c l) = refl
length-line labels p (JumpNear l) = omega (arith, length-word_bytes)
length-line labels p (CallNear l) = omega (arith, length-word_bytes)

pub code_size-append : (a b : List Line) → code_size (a ++ b) ≡ code_size a + code_size b
code_size-append [] b = omega arith
code_size-append (x ∷ a) b =
    let h = code_size-append a b in
    omega arith

-- the first n lines are laid out
pub record Laid (lines : List Line) (bytes places : List ℕ) (n : ℕ) : Type 0 where
  pub spelled : bytes ++ bytes_from (label_place lines) (length bytes) (drop n lines) ≡ assembled lines
  pub placed : places ++ places_from (length bytes) (drop n lines) ≡ places_from 0 lines
  pub before : length bytes ≡ code_size (take n lines)
  pub behind : length bytes + code_size (drop n lines) ≡ code_size lines
  pub reaches : ReachesFrom (label_place lines) (length bytes) (drop n lines) → ReachesFrom (label_place lines) 0 lines

pub laid_next : (lines : List Line) (bytes places : List ℕ) (n : ℕ) (x : Line) → drop n lines ≡ x ∷ drop (n + 1) lines → take (n + 1) lines ≡ take n lines ++ x ∷ [] → LineReaches (label_place lines) (length bytes) x → Laid lines bytes places n → Laid lines (bytes ++ spelling_if (line_instr (label_place lines) (length bytes) x)) (places ++ length bytes ∷ []) (n + 1)
laid_next lines bytes places n x ed et r h =
    let labels : ℕ → ℕ = label_place lines in
    let p = length bytes in
    let b = spelling_if (line_instr labels p x) in
    let e : length (bytes ++ b) ≡ p + line_size x = omega (arith, length-append bytes b, length-line labels p x) in
    let t = drop (n + 1) lines in
    record {
      spelled = rw e (append_assoc bytes b (bytes_from labels (p + line_size x) t) ∙ (rw ed at h.spelled));
      placed = rw e (append_assoc places (p ∷ []) (places_from (p + line_size x) t) ∙ (rw ed at h.placed));
      before = rw (e, et) (let g = code_size-append (take n lines) (x ∷ []) in let k = h.before in omega arith);
      behind = rw e (let k = rw ed at h.behind in omega arith);
      reaches = rw e (λ g. (rw ed at h.reaches) (r, g));
    }

pub laid_line : (lines : List Line) (bytes places : List ℕ) (n : ℕ) (d : Line) → n < length lines → LineReaches (label_place lines) (length bytes) (get_or lines n d) → Laid lines bytes places n → Laid lines (bytes ++ spelling_if (line_instr (label_place lines) (length bytes) (get_or lines n d))) (places ++ length bytes ∷ []) (n + 1)
laid_line lines bytes places n d h r g =
    let e : suc n ≡ n + 1 = omega arith in
    laid_next lines bytes places n (get_or lines n d) (rw (← e) (drop-cons lines n d h)) (take_more lines n d h) r g

pub named_line : (lines : List Line) (bytes places : List ℕ) (n : ℕ) (d : Line) (distance : ℤ) → n < length lines → IsTooFarAt (label_place lines) (length bytes) distance (get_or lines n d) → Laid lines bytes places n → IsTooFar lines n distance
named_line lines bytes places n d distance h f g = rw (slice_get-get_or lines n d h, ← g.before) f

pub length-bytes_from : (labels : ℕ → ℕ) (p : ℕ) (xs : List Line) → length (bytes_from labels p xs) ≡ code_size xs
length-bytes_from labels p [] = refl
length-bytes_from labels p (x ∷ xs) =
    let b = spelling_if (line_instr labels p x) in
    omega (arith, length-append b (bytes_from labels (p + line_size x) xs), length-line labels p x, length-bytes_from labels (p + line_size x) xs)

pub length-assembled : (lines : List Line) → length (assembled lines) ≡ code_size lines
length-assembled lines = length-bytes_from (label_place lines) 0 lines

-- References of lines, from one of them on.
use Rattle.std.proofs.Common.{arith, ◌≡◌, ℕ, suc, ◌+◌, ◌<◌, List, [], ◌∷◌, ◌++◌, length, get_or, drop, Some, None, refl, sym, ap, ◌∙◌, append_assoc}
use Rattle.std.proofs.lemmas.List.{length-map}
use Rattle.std.proofs.Math.Seq.{drop-cons}
use Rattle.object_file.specs.declared.object_unit.object.Ref.{Ref}
use Rattle.x86_table.specs.declared.line.Line.{Line}
use Rattle.x86_table.specs.Lines.{line_size, places_from, Shortens}
use Rattle.flat_code.specs.Program.{Name}
use Rattle.code_templates.specs.declared.code_references.marks.MarkedLine.{MarkedLine}
use Rattle.code_templates.specs.declared.code_references.marks.Target.{Target}
use Rattle.code_templates.specs.code_references.Marks.{line_of, lines_of}
use Rattle.codegen_8086.specs.object_code.Objects.{IsLaidOut}
use Rattle.codegen_8086.specs.object_code.References.{ref_of, refs_of, refs_at}

cut : {X : Type 0} (xs : List X) (i : ℕ) (d : X) → i < length xs → drop i xs ≡ get_or xs i d ∷ drop (i + 1) xs
cut xs i d h =
    let next : suc i ≡ i + 1 = omega arith in
    drop-cons xs i d h ∙ ap (λ k. get_or xs i d ∷ drop k xs) next

refs-cut : (names : List Name) (places : List ℕ) (lines : List MarkedLine) (n : ℕ) (d : MarkedLine) → length places ≡ length lines → n < length lines → refs_at names (drop n places) (drop n lines) ≡ refs_of names (get_or places n 0) (get_or lines n d).target ++ refs_at names (drop (n + 1) places) (drop (n + 1) lines)
refs-cut names places lines n d same h =
    ap (λ z. refs_at names z (drop n lines)) (cut places n 0 (omega (arith, same, h)))
    ∙ ap (λ z. refs_at names (get_or places n 0 ∷ drop (n + 1) places) z) (cut lines n d h)

-- one line more, which refers to something, or to nothing
pub refs-some : (names : List Name) (places : List ℕ) (lines : List MarkedLine) (n : ℕ) (d : MarkedLine) (t : Target) (one : Ref) (whole old new : List Ref) → length places ≡ length lines → n < length lines → (get_or lines n d).target ≡ Some t → one ≡ ref_of names (get_or places n 0) t → old ++ refs_at names (drop n places) (drop n lines) ≡ whole → new ≡ old ++ one ∷ [] → new ++ refs_at names (drop (n + 1) places) (drop (n + 1) lines) ≡ whole
refs-some names places lines n d t one whole old new same h is made before step =
    let rest = refs_at names (drop (n + 1) places) (drop (n + 1) lines) in
    let p = get_or places n 0 in
    ap (λ z. z ++ rest) (step ∙ ap (λ (r : Ref). old ++ r ∷ []) made ∙ ap (λ o. old ++ refs_of names p o) (sym is))
    ∙ append_assoc old (refs_of names p (get_or lines n d).target) rest
    ∙ ap (λ z. old ++ z) (sym (refs-cut names places lines n d same h))
    ∙ before

pub refs-none : (names : List Name) (places : List ℕ) (lines : List MarkedLine) (n : ℕ) (d : MarkedLine) (whole old new : List Ref) → length places ≡ length lines → n < length lines → (get_or lines n d).target ≡ None → old ++ refs_at names (drop n places) (drop n lines) ≡ whole → new ≡ old → new ++ refs_at names (drop (n + 1) places) (drop (n + 1) lines) ≡ whole
refs-none names places lines n d whole old new same h is before step =
    let rest = refs_at names (drop (n + 1) places) (drop (n + 1) lines) in
    ap (λ z. z ++ rest) step
    ∙ ap (λ o. old ++ (refs_of names (get_or places n 0) o ++ rest)) (sym is)
    ∙ ap (λ z. old ++ z) (sym (refs-cut names places lines n d same h))
    ∙ before

-- ---- lines that are laid out

short_length : (xs ys : List Line) → Shortens xs ys → length ys ≡ length xs
short_length [] ys h = ap (λ (z : List Line). length z) h
short_length (x ∷ xs) [] h = absurd h
short_length (x ∷ xs) (y ∷ ys) h = omega (arith, short_length xs ys h.1)

places_length : (p : ℕ) (xs : List Line) → length (places_from p xs) ≡ length xs
places_length p [] = refl
places_length p (x ∷ xs) = omega (arith, places_length (p + line_size x) xs)

-- each line has a place
pub placed-length : (marked list : List MarkedLine) (lines : List Line) (places : List ℕ) → IsLaidOut marked lines → places ≡ places_from 0 lines → list ≡ marked → length places ≡ length list
placed-length marked list lines places laid is same =
    omega (arith, ap (λ (z : List ℕ). length z) is, places_length 0 lines, short_length (lines_of marked) lines laid.shortens, length-map marked line_of, ap (λ (z : List MarkedLine). length z) same)

-- The code of a routine, its references filled in, is the routine's lines.
use Rattle.std.proofs.Common.{arith, ◌≡◌, ℕ, zero, suc, ◌+◌, ◌≤◌, Bool, true, false, List, [], ◌∷◌, ◌++◌, length, map, take, drop, refl, sym, ap, subst, ◌∙◌, append_assoc, length-append, inl, inr}
use Rattle.std.specs.Prelude.{if◌then◌else◌}
use Rattle.std.proofs.lemmas.List.{drop_at, length-map}
use Rattle.x86_table.specs.declared.instr.Instr.{Instr}
use Rattle.x86_table.specs.declared.line.Line.{Line}
use Rattle.x86_table.specs.Lines.{code_size, marks, label_place, bytes_from, places_from, assembled, ShortJumpsReach, Shortens}
use Rattle.x86_table.specs.Spelling.{spelling}
use Rattle.x86_table.specs.Standing.{IsSpelledAt, label_line_from, label_line, LabelsAreOnce, Alike, Stands, offset_of}
use Rattle.x86_table.proofs.Filling.{alike_offset_of, alike_label_place, alike_jumps_reach, alike_labels_once}
use Rattle.x86_table.proofs.Places.{length-assembled}
use Rattle.x86_table.proofs.Stand.{lines_stand_at}
use Rattle.flat_code.specs.declared.unit.FlatRoutine.{FlatRoutine}
use Rattle.flat_code.specs.Plain.{view_routine}
use Rattle.flat_code.specs.Program.{Name, UnitCode}
use Rattle.code_templates.specs.code_lines.Lines.{routine_lines}
use Rattle.code_templates.proofs.code_labels.Labels.{routine_once}
use Rattle.code_templates.specs.code_references.Marks.{placed_line, line_of, lines_of}
use Rattle.code_templates.specs.code_references.Marked.{marked_routine}
use Rattle.code_templates.proofs.code_references.Filled.{lines_filled, once_kept}
use Rattle.code_templates.proofs.code_references.Placed.{routine-makes}
use Rattle.codegen_8086.specs.object_code.Objects.{IsLaidOut, code_of}
use Rattle.codegen_8086.specs.object_code.References.{refs_at}
use Rattle.codegen_8086.specs.object_code.Resolved.{NamesLead, resolved, routine_context, IsWithin, CodeFor}
use Rattle.codegen_8086.proofs.object_code.Good.{AllGood, routine-good}
use Rattle.codegen_8086.proofs.object_code.Fills.{near_of, fills, lines_alike, shorts_alike, fills_shorten, bytes_filled}
use Rattle.codegen_8086.proofs.object_code.Stood.{offsets, labels_of, extended, offsets_each, lines_stood}

-- ---- lengths

alike_length : (xs ys : List Line) → Alike xs ys → length ys ≡ length xs
alike_length [] ys h = ap (λ (z : List Line). length z) h
alike_length (x ∷ xs) [] h = absurd h
alike_length (x ∷ xs) (y ∷ ys) h = omega (arith, alike_length xs ys h.1)

short_length : (xs ys : List Line) → Shortens xs ys → length ys ≡ length xs
short_length [] ys h = ap (λ (z : List Line). length z) h
short_length (x ∷ xs) [] h = absurd h
short_length (x ∷ xs) (y ∷ ys) h = omega (arith, short_length xs ys h.1)

either : (b : Bool) (x y n : ℕ) → x ≤ n → y ≤ n → (if b then x else y) ≤ n
either true x y n h g = h
either false x y n h g = g

label_within : (k : ℕ) (xs : List Line) (l : ℕ) → label_line_from k xs l ≤ k + length xs
label_within k [] l = omega arith
label_within k (x ∷ xs) l = either (marks l x) k (label_line_from (k + 1) xs l) (k + length (x ∷ xs)) (omega arith) (omega (arith, label_within (k + 1) xs l))

-- ---- instructions among the bytes of a segment

spelled_there : (front back pre post code : List ℕ) (i : Instr) → pre ++ (spelling i ++ post) ≡ code → IsSpelledAt (front ++ (code ++ back)) (length front + length pre) i
spelled_there front back pre post code i h =
    let s = spelling i in
    let e : front ++ (code ++ back) ≡ (front ++ pre) ++ (s ++ (post ++ back)) =
    ap (λ z. front ++ (z ++ back)) (sym h)
    ∙ ap (λ z. front ++ z) (append_assoc pre (s ++ post) back ∙ ap (λ z. pre ++ z) (append_assoc s post back))
    ∙ sym (append_assoc front pre (s ++ (post ++ back))) in
    (post ++ back, ap (drop (length front + length pre)) e ∙ drop_at (front ++ pre) (s ++ (post ++ back)) (length front + length pre) (length-append front pre))

-- ---- offsets in a segment

taken_size : (j : ℕ) (xs : List Line) → code_size (take j xs) ≤ code_size xs
taken_size zero [] = omega arith
taken_size zero (x ∷ xs) = omega arith
taken_size (suc j) [] = omega arith
taken_size (suc j) (x ∷ xs) = omega (arith, taken_size j xs)

in_segment : (front back code : List ℕ) (ws : List Line) (k : ℕ) → code ≡ assembled ws → offset_of (length front) ws k ≤ length (front ++ (code ++ back))
in_segment front back code ws k h =
    let whole = length-append front (code ++ back) in
    let behind = length-append code back in
    let size : length code ≡ code_size ws = ap (λ (z : List ℕ). length z) h ∙ length-assembled ws in
    omega (arith, whole, behind, size, taken_size k ws)

-- ---- the whole

pub code_stands : (own : Name) (unit : UnitCode) (pointer : ℕ) (r : FlatRoutine) (ys : List Line) → NamesLead own unit.names → IsLaidOut (marked_routine unit pointer (view_routine r)) ys → CodeFor own unit pointer (view_routine r) (code_of unit.names r (marked_routine unit pointer (view_routine r)) ys)
code_stands own unit pointer r ys lead laid a front back =
    let routine = view_routine r in
    let x = routine_context a own unit routine in
    let ms = marked_routine unit pointer routine in
    let k = length unit.routines in
    let p = length front in
    let n = length ms in
    let good : AllGood k ms = (routine-good unit pointer routine).all in
    let zs = fills x p ms ys (lines_of ms) in
    let ws = fills x p ms ys ys in
    let placed : map (placed_line x) ms ≡ routine_lines x pointer routine = routine-makes a x pointer routine in
    let once_ms : LabelsAreOnce (lines_of ms) = once_kept (lines_of ms) (map (placed_line x) ms) (lines_filled x ms) (subst LabelsAreOnce (sym placed) (routine_once x pointer routine)) in
    let alike_zs : Alike (lines_of ms) zs = lines_alike k x p ms ys good laid.shortens in
    let once_zs : LabelsAreOnce zs = alike_labels_once (lines_of ms) zs alike_zs once_ms in
    let alike_ws : Alike ys ws = shorts_alike k x p ms ys good laid.shortens in
    let reach_ws : ShortJumpsReach ws = alike_jumps_reach ys ws alike_ws laid.reach in
    let short : Shortens zs ws = fills_shorten k x p ms ys good laid.shortens in
    let q : p + 0 ≡ p = omega arith in
    let bytes : resolved a own unit.names p (assembled ys) (refs_at unit.names (places_from 0 ys) ms) ≡ assembled ws =
    bytes_filled k x (label_place ys) p 0 [] ms ys lead refl good laid.shortens
    ∙ ap (λ z. bytes_from (label_place ys) 0 (fills x z ms ys ys)) q
    ∙ ap (λ (labels : ℕ → ℕ). bytes_from labels 0 ws) (sym (alike_label_place ys ws alike_ws)) in
    let code = resolved a own unit.names p (assembled ys) (refs_at unit.names (places_from 0 ys) ms) in
    let whole = front ++ (code ++ back) in
    let stood_ws : Stands (IsSpelledAt whole) (offset_of p ws) (label_line zs) 0 zs =
    lines_stand_at (IsSpelledAt whole) p zs ws short once_zs reach_ws (λ pre post i h. spelled_there front back pre post code i (h ∙ sym bytes)) in
    let stood_ys : Stands (IsSpelledAt whole) (offset_of p ys) (label_line zs) 0 zs = subst (λ (at : ℕ → ℕ). Stands (IsSpelledAt whole) at (label_line zs) 0 zs) (alike_offset_of p ys ws alike_ws) stood_ws in
    let count_ms : length (lines_of ms) ≡ n = length-map ms line_of in
    let count_zs : length zs ≡ n = alike_length (lines_of ms) zs alike_zs ∙ count_ms in
    let count_ys : length ys ≡ n = short_length (lines_of ms) ys laid.shortens ∙ count_ms in
    let within : (l : ℕ) → label_line zs l ≤ n = λ l. omega (arith, label_within 0 zs l, count_zs) in
    let ext = extended (offset_of p ys) (label_line zs) (near_of x) n k in
    let high = offsets (offset_of p ys) (near_of x) n in
    let labels = labels_of (label_line zs) k n in
    let here : (i : ℕ) → offset_of p ys (0 + i) ≡ p + code_size (take i ys) = λ i.
    let e : 0 + i ≡ i = omega arith in
    ap (offset_of p ys) e in
    let stood : Stands (IsSpelledAt whole) high labels 0 (map (placed_line x) ms) = lines_stood (IsSpelledAt whole) x (offset_of p ys) (label_line zs) n k high labels 0 p ms ys ext within (omega arith) count_ys here good stood_ys in
    let line_within : (j : ℕ) → IsWithin a own whole (offset_of p ys j) = λ j.
    subst (λ (at : ℕ → ℕ). IsWithin a own whole (at j)) (alike_offset_of p ys ws alike_ws) (inl (in_segment front back code ws j bytes)) in
    record {
      at = high;
      labels = labels;
      begins = ext.same 0 (omega arith) ∙ (omega arith);
      leads = ext.leads;
      stands = subst (λ ls. Stands (IsSpelledAt whole) high labels 0 ls) placed stood;
      bounded = λ k. offsets_each (IsWithin a own whole) (offset_of p ys) (near_of x) n k line_within (λ number. inr (number, refl));
    }

-- Routines laid out one after another.
use Rattle.std.proofs.Common.{arith, ◌≡◌, ℕ, ◌+◌, ◌<◌, ◌≤◌, List, [], ◌∷◌, ◌++◌, length, get_or, take, sym, ap, subst, ◌∙◌, append_assoc, length-append}
use Rattle.std.proofs.lemmas.List.{take_more, append-nil}
use Rattle.type_layout.specs.declared.definitions.RoutineId.{RoutineId}
use Rattle.object_file.specs.declared.object_unit.object.Code8086.{Code8086}
use Rattle.x86_table.specs.declared.line.Line.{Line}
use Rattle.x86_table.specs.Lines.{code_size}
use Rattle.flat_code.specs.declared.unit.FlatRoutine.{FlatRoutine}
use Rattle.code_templates.specs.declared.code_references.marks.MarkedLine.{MarkedLine}
use Rattle.flat_code.specs.Plain.{view_routine}
use Rattle.flat_code.specs.Program.{Name, UnitCode}
use Rattle.code_templates.specs.code_references.Marked.{marked_routine, stored}
use Rattle.codegen_8086.specs.object_code.Objects.{IsLaidOut, code_of, AreLaidOut, sizes, codes_of, all_stored}

laid-append : (unit : UnitCode) (p : ℕ) (rs : List FlatRoutine) (ls : List (List Line)) (r : FlatRoutine) (l : List Line) → AreLaidOut unit p rs ls → IsLaidOut (marked_routine unit (p + length (all_stored rs)) (view_routine r)) l → AreLaidOut unit p (rs ++ r ∷ []) (ls ++ l ∷ [])
laid-append unit p [] [] r l h g =
    let e : p + 0 ≡ p = omega arith in
    (subst (λ q. IsLaidOut (marked_routine unit q (view_routine r)) l) e g, tt)
laid-append unit p [] (k ∷ ls) r l h g = absurd h
laid-append unit p (s ∷ rs) [] r l h g = absurd h
laid-append unit p (s ∷ rs) (k ∷ ls) r l h g =
    let q = p + length (stored (view_routine s).body) in
    let e : p + length (all_stored (s ∷ rs)) ≡ q + length (all_stored rs) = omega (arith, length-append (stored (view_routine s).body) (all_stored rs)) in
    (h.0, laid-append unit q rs ls r l h.1 (subst (λ q. IsLaidOut (marked_routine unit q (view_routine r)) l) e g))

codes-append : (names : List Name) (unit : UnitCode) (p : ℕ) (rs : List FlatRoutine) (ls : List (List Line)) (r : FlatRoutine) (l : List Line) → AreLaidOut unit p rs ls → codes_of names unit p (rs ++ r ∷ []) (ls ++ l ∷ []) ≡ codes_of names unit p rs ls ++ code_of names r (marked_routine unit (p + length (all_stored rs)) (view_routine r)) l ∷ []
codes-append names unit p [] [] r l h =
    let e : p ≡ p + 0 = omega arith in
    ap (λ q. code_of names r (marked_routine unit q (view_routine r)) l ∷ []) e
codes-append names unit p [] (k ∷ ls) r l h = absurd h
codes-append names unit p (s ∷ rs) [] r l h = absurd h
codes-append names unit p (s ∷ rs) (k ∷ ls) r l h =
    let q = p + length (stored (view_routine s).body) in
    let e : q + length (all_stored rs) ≡ p + length (all_stored (s ∷ rs)) = omega (arith, length-append (stored (view_routine s).body) (all_stored rs)) in
    let first = code_of names s (marked_routine unit p (view_routine s)) k in
    ap (λ z. first ∷ z) (codes-append names unit q rs ls r l h.1)
    ∙ ap (λ n. first ∷ (codes_of names unit q rs ls ++ code_of names r (marked_routine unit n (view_routine r)) l ∷ [])) e

sizes-append : (ls : List (List Line)) (l : List Line) → sizes (ls ++ l ∷ []) ≡ sizes ls + code_size l
sizes-append [] l = omega arith
sizes-append (k ∷ ls) l = omega (arith, sizes-append ls l)

stored-append : (rs : List FlatRoutine) (r : FlatRoutine) → all_stored (rs ++ r ∷ []) ≡ all_stored rs ++ stored (view_routine r).body
stored-append [] r = append-nil (stored (view_routine r).body)
stored-append (s ∷ rs) r =
    ap (λ z. stored (view_routine s).body ++ z) (stored-append rs r)
    ∙ sym (append_assoc (stored (view_routine s).body) (all_stored rs) (stored (view_routine r).body))

-- ---- the first routines of a unit, and one more

-- What is known once the first routines have code: how their lines are laid out, how many bytes that is, and unless it is too much, the code.
pub record Progress (names : List Name) (unit : UnitCode) (rs : List FlatRoutine) (i bytes : ℕ) (kept : List RoutineId) (codes : List Code8086) : Type 0 where
  pub layouts : List (List Line)
  pub laid : AreLaidOut unit 0 (take i rs) layouts
  pub count : bytes ≡ sizes layouts
  pub made : bytes ≤ 65520 → codes ≡ codes_of names unit 0 (take i rs) layouts
  pub stored_is : kept ≡ all_stored (take i rs)

one_more : (rs : List FlatRoutine) (i : ℕ) (r : FlatRoutine) → i < length rs → r ≡ get_or rs i r → take (i + 1) rs ≡ take i rs ++ r ∷ []
one_more rs i r h e = take_more rs i r h ∙ ap (λ y. take i rs ++ y ∷ []) (sym e)

stored-next : (rs : List FlatRoutine) (i : ℕ) (r : FlatRoutine) (old new : List RoutineId) → i < length rs → r ≡ get_or rs i r → old ≡ all_stored (take i rs) → new ≡ old ++ stored (view_routine r).body → new ≡ all_stored (take (i + 1) rs)
stored-next rs i r old new h e before step =
    step ∙ ap (λ z. z ++ stored (view_routine r).body) before ∙ sym (stored-append (take i rs) r) ∙ ap all_stored (sym (one_more rs i r h e))

-- the lines of one routine more
laid-next : (unit : UnitCode) (rs : List FlatRoutine) (i : ℕ) (r : FlatRoutine) (ls : List (List Line)) (l : List Line) (old : List RoutineId) → i < length rs → r ≡ get_or rs i r → old ≡ all_stored (take i rs) → AreLaidOut unit 0 (take i rs) ls → IsLaidOut (marked_routine unit (length old) (view_routine r)) l → AreLaidOut unit 0 (take (i + 1) rs) (ls ++ l ∷ [])
laid-next unit rs i r ls l old h e before laid one =
    let f : length old ≡ 0 + length (all_stored (take i rs)) = omega (arith, ap length before) in
    subst (λ z. AreLaidOut unit 0 z (ls ++ l ∷ [])) (sym (one_more rs i r h e))
    (laid-append unit 0 (take i rs) ls r l laid (subst (λ n. IsLaidOut (marked_routine unit n (view_routine r)) l) f one))

codes-next : (names : List Name) (unit : UnitCode) (rs : List FlatRoutine) (i : ℕ) (r : FlatRoutine) (ls : List (List Line)) (l : List Line) (kept : List RoutineId) (old new : List Code8086) → i < length rs → r ≡ get_or rs i r → kept ≡ all_stored (take i rs) → AreLaidOut unit 0 (take i rs) ls → old ≡ codes_of names unit 0 (take i rs) ls → new ≡ old ++ code_of names r (marked_routine unit (length kept) (view_routine r)) l ∷ [] → new ≡ codes_of names unit 0 (take (i + 1) rs) (ls ++ l ∷ [])
codes-next names unit rs i r ls l kept old new h e before laid made step =
    let f : length kept ≡ 0 + length (all_stored (take i rs)) = omega (arith, ap length before) in
    step
    ∙ ap (λ z. z ++ code_of names r (marked_routine unit (length kept) (view_routine r)) l ∷ []) made
    ∙ ap (λ n. codes_of names unit 0 (take i rs) ls ++ code_of names r (marked_routine unit n (view_routine r)) l ∷ []) f
    ∙ sym (codes-append names unit 0 (take i rs) ls r l laid)
    ∙ ap (λ z. codes_of names unit 0 z (ls ++ l ∷ [])) (sym (one_more rs i r h e))

pub progress-next : (names : List Name) (unit : UnitCode) (rs : List FlatRoutine) (i bytes more : ℕ) (kept next : List RoutineId) (codes new : List Code8086) (r : FlatRoutine) (marked : List MarkedLine) (l : List Line)
    → i < length rs → r ≡ get_or rs i r
    → Progress names unit rs i bytes kept codes
    → marked ≡ marked_routine unit (length kept) (view_routine r) → IsLaidOut marked l
    → more ≡ bytes + code_size l
    → (more ≤ 65520 → new ≡ codes ++ code_of names r marked l ∷ [])
    → next ≡ kept ++ stored (view_routine r).body
    → Progress names unit rs (i + 1) more next new
progress-next names unit rs i bytes more kept next codes new r marked l h e p is one counted step stores =
    let laid = subst (λ m. IsLaidOut m l) is one in
    record {
      layouts = p.layouts ++ l ∷ [];
      laid = laid-next unit rs i r p.layouts l kept h e p.stored_is p.laid laid;
      count = omega (arith, p.count, counted, sizes-append p.layouts l);
      made = λ small.
          codes-next names unit rs i r p.layouts l kept codes new h e p.stored_is p.laid (p.made (omega (arith, small, counted)))
          (step small ∙ ap (λ m. codes ++ code_of names r m l ∷ []) is);
      stored_is = stored-next rs i r kept next h e p.stored_is stores;
    }

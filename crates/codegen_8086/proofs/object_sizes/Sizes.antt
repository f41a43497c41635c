-- Sizes of lines before and after near jumps are made short, and of the code of routines.
use Rattle.std.proofs.Common.{arith, ◌≡◌, ℕ, ◌+◌, ◌≤◌, Bool, true, false, List, [], ◌∷◌, ◌++◌, length, map, refl, sym, ap, subst, inl, inr}
use Rattle.std.specs.List.{AllByRecursion, sum_by}
use Rattle.std.proofs.lemmas.List.Sums.{sum_by-cons}
use Rattle.object_file.specs.declared.object_unit.object.Code8086.{Code8086}
use Rattle.object_file.specs.declared.object_unit.object.ObjectUnit.{ObjectUnit}
use Rattle.x86_table.specs.declared.line.Line.{Line}
use Rattle.x86_table.specs.declared.line.Line.TheVariants.{One, Label, JumpShort, JumpNear, CallNear}
use Rattle.x86_table.specs.Lines.{line_size, code_size, LineShortens, Shortens}
use Rattle.x86_table.specs.Spelling.{word_bytes, word_modrm, pair_form, pair_body, pair_override, immediate_width, immediate_body, immediate_override, spelling}
use Rattle.x86_table.proofs.Places.{length-assembled}
use Rattle.flat_code.specs.declared.unit.FlatRoutine.{FlatRoutine}
use Rattle.flat_code.specs.declared.unit.FlatUnit.{FlatUnit}
use Rattle.flat_code.specs.Plain.{view_routine, view_unit}
use Rattle.flat_code.specs.Program.{Name, Routine, UnitCode}
use Rattle.flat_code.specs.Weights.{routine_weight, unit_weight}
use Rattle.code_templates.specs.code_lines.Addresses.{Context}
use Rattle.code_templates.specs.code_lines.Lines.{enter_frame, make_room, within, routine_lines}
use Rattle.code_templates.proofs.code_lines.Weights.{routine_weighs}
use Rattle.code_templates.specs.declared.code_references.marks.MarkedLine.{MarkedLine}
use Rattle.code_templates.specs.code_references.Marks.{plain, placed_line, lines_of}
use Rattle.code_templates.specs.code_references.Marked.{stored, marked_stack_test, marked_prologue, marked_body, marked_epilogue, marked_routine}
use Rattle.code_templates.specs.code_references.Unplaced.{unplaced}
use Rattle.code_templates.proofs.code_references.Filled.{LineFilled, Filled, lines_filled}
use Rattle.code_templates.proofs.code_references.Placed.{routine-makes}
use Rattle.codegen_8086.specs.object_code.Objects.{AreLaidOut, sizes, codes_of, ObjectFor, IsTooLarge}
use Rattle.codegen_8086.specs.object_sizes.Sizes.{code_bytes}

-- ---- at most

line_short : (x y : Line) → LineShortens x y → line_size y ≤ line_size x
line_short (One i) y h = omega (arith, ap line_size h)
line_short (Label l) y h = omega (arith, ap line_size h)
line_short (JumpShort c l) y h = omega (arith, ap line_size h)
line_short (JumpNear l) y (inl h) = omega (arith, ap line_size h)
line_short (JumpNear l) y (inr h) = omega (arith, ap line_size h)
line_short (CallNear l) y h = omega (arith, ap line_size h)

short_size : (xs ys : List Line) → Shortens xs ys → code_size ys ≤ code_size xs
short_size [] ys h = omega (arith, ap code_size h)
short_size (x ∷ xs) [] h = absurd h
short_size (x ∷ xs) (y ∷ ys) h = omega (arith, line_short x y h.0, short_size xs ys h.1)

line_filled : (x y : Line) → LineFilled x y → line_size y ≡ line_size x
line_filled (One i) (One j) h = h
line_filled (One i) (CallNear l) h = sym h
line_filled (One i) (Label l) h = absurd h
line_filled (One i) (JumpShort c l) h = absurd h
line_filled (One i) (JumpNear l) h = absurd h
line_filled (Label l) y h = ap line_size h
line_filled (JumpShort c l) y h = ap line_size h
line_filled (JumpNear l) y h = ap line_size h
line_filled (CallNear l) y h = ap line_size h

filled_size : (xs ys : List Line) → Filled xs ys → code_size ys ≡ code_size xs
filled_size [] ys h = ap code_size h
filled_size (x ∷ xs) [] h = absurd h
filled_size (x ∷ xs) (y ∷ ys) h = omega (arith, line_filled x y h.0, filled_size xs ys h.1)

abbrev without_addresses : UnitCode → Bool → Context
without_addresses unit far = record { addresses = unplaced; own = []; unit = unit; far = far }

marked_most : (unit : UnitCode) (pointer : ℕ) (r : Routine) → code_size (lines_of (marked_routine unit pointer r)) ≤ routine_weight r
marked_most unit pointer r =
    let x = without_addresses unit r.far in
    let ms = marked_routine unit pointer r in
    let placed = map (placed_line (within x r)) ms in
    omega (arith, filled_size (lines_of ms) placed (lines_filled (within x r) ms), ap code_size (routine-makes unplaced x pointer r), length-assembled (routine_lines x pointer r), routine_weighs x pointer r)

most : (unit : UnitCode) (p : ℕ) (rs : List FlatRoutine) (layouts : List (List Line)) → AreLaidOut unit p rs layouts → sizes layouts ≤ sum_by routine_weight (map view_routine rs)
most unit p [] [] h = omega arith
most unit p [] (l ∷ ls) h = absurd h
most unit p (r ∷ rs) [] h = absurd h
most unit p (r ∷ rs) (l ∷ ls) h =
    let ms = marked_routine unit p (view_routine r) in
    omega (arith, sum_by-cons routine_weight (view_routine r) (map view_routine rs), short_size (lines_of ms) l h.0.shortens, marked_most unit p (view_routine r), most unit (p + length (stored (view_routine r).body)) rs ls h.1)

counted : (names : List Name) (unit : UnitCode) (p : ℕ) (rs : List FlatRoutine) (layouts : List (List Line)) → AreLaidOut unit p rs layouts → code_bytes (codes_of names unit p rs layouts) ≡ sizes layouts
counted names unit p [] [] h = refl
counted names unit p [] (l ∷ ls) h = absurd h
counted names unit p (r ∷ rs) [] h = absurd h
counted names unit p (r ∷ rs) (l ∷ ls) h = omega (arith, length-assembled l, counted names unit (p + length (stored (view_routine r).body)) rs ls h.1)

pub at_most : (unit : FlatUnit) (object : ObjectUnit) → ObjectFor unit object → code_bytes object.routines ≤ unit_weight (view_unit unit)
at_most unit object f = omega (arith, ap code_bytes f.routines, counted unit.names (view_unit unit) 0 unit.routines f.layouts f.laid, most (view_unit unit) 0 unit.routines f.layouts f.laid)

pub too_large : (unit : FlatUnit) (bytes : ℕ) → IsTooLarge unit bytes → bytes ≤ unit_weight (view_unit unit)
too_large unit bytes f = omega (arith, f.count, most (view_unit unit) 0 unit.routines f.layouts f.laid)

-- ---- at least

-- the bytes of instructions, which no shortening changes
abbrev fixed : Line → ℕ
fixed (One i) = length (spelling i)
fixed (Label l) = 0
fixed (JumpShort c l) = 0
fixed (JumpNear l) = 0
fixed (CallNear l) = 0

abbrev all_fixed : List MarkedLine → ℕ
all_fixed [] = 0
all_fixed (m ∷ ms) = fixed m.line + all_fixed ms

fixed-append : (ms ns : List MarkedLine) → all_fixed (ms ++ ns) ≡ all_fixed ms + all_fixed ns
fixed-append [] ns = omega arith
fixed-append (m ∷ ms) ns = omega (arith, fixed-append ms ns)

line_kept : (x y : Line) → LineShortens x y → fixed x ≤ line_size y
line_kept (One i) y h = omega (arith, ap line_size h)
line_kept (Label l) y h = omega arith
line_kept (JumpShort c l) y h = omega arith
line_kept (JumpNear l) y h = omega arith
line_kept (CallNear l) y h = omega arith

fixed_kept : (ms : List MarkedLine) (ys : List Line) → Shortens (lines_of ms) ys → all_fixed ms ≤ code_size ys
fixed_kept [] ys h = omega arith
fixed_kept (m ∷ ms) [] h = absurd h
fixed_kept (m ∷ ms) (y ∷ ys) h = omega (arith, line_kept m.line y h.0, fixed_kept ms ys h.1)

enter_fixed : (far : Bool) → 3 ≤ all_fixed (plain (enter_frame far))
unfolding pair_form pair_body pair_override word_modrm
enter_fixed true = omega arith
enter_fixed false = omega arith

room_fixed : (r : Routine) → all_fixed (plain (make_room r ∷ [])) ≡ 4
unfolding immediate_width immediate_body immediate_override word_modrm word_bytes
room_fixed r = refl

routine_fixed : (unit : UnitCode) (pointer : ℕ) (r : Routine) → 6 ≤ all_fixed (marked_routine unit pointer r)
routine_fixed unit pointer r =
    let enter = plain (enter_frame r.far) in
    let test = marked_stack_test r r.frame in
    let room = plain (make_room r ∷ []) in
    omega (arith, fixed-append (marked_prologue r) (marked_body unit pointer r ++ marked_epilogue r), fixed-append enter (test ++ room), fixed-append test room, enter_fixed r.far, room_fixed r)

least : (names : List Name) (unit : UnitCode) (p : ℕ) (rs : List FlatRoutine) (layouts : List (List Line)) → AreLaidOut unit p rs layouts → AllByRecursion (λ (code : Code8086). 6 ≤ length code.code) (codes_of names unit p rs layouts)
least names unit p [] [] h = tt
least names unit p [] (l ∷ ls) h = absurd h
least names unit p (r ∷ rs) [] h = absurd h
least names unit p (r ∷ rs) (l ∷ ls) h =
    let ms = marked_routine unit p (view_routine r) in
    (omega (arith, length-assembled l, fixed_kept ms l h.0.shortens, routine_fixed unit p (view_routine r)), least names unit (p + length (stored (view_routine r).body)) rs ls h.1)

pub at_least : (unit : FlatUnit) (object : ObjectUnit) → ObjectFor unit object → AllByRecursion (λ (code : Code8086). 6 ≤ length code.code) object.routines
at_least unit object f = subst (AllByRecursion (λ (code : Code8086). 6 ≤ length code.code)) (sym f.routines) (least unit.names (view_unit unit) 0 unit.routines f.layouts f.laid)

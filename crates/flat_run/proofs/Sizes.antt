-- How large statements and programs are: what is left to run falls by this.
use Rattle.std.proofs.Common.{◌≡◌, ℕ, zero, suc, ◌+◌, ◌*◌, ◌≤◌, ◌<◌, List, [], ◌∷◌, length, get_or, Option, Some, ap, ◌∙◌, arith}
use Rattle.std.specs.Prelude.{slice_get, if◌then◌else◌, true, false, Bool}
use Rattle.flat_code.specs.declared.tree.FlatStmt.{FlatStmt}
use Rattle.type_layout.specs.Words.{same_bytes}
use Rattle.flat_code.specs.Tree.{Code, End, Do, If, Loop, ◌then◌}
use Rattle.flat_code.specs.View.{view_stmt, view_list}
use Rattle.flat_code.specs.Program.{Name, Routine, UnitCode}
use Rattle.flat_code.specs.Plain.{name_at, unit_from}
use Rattle.flat_code.proofs.Rows.{view_stmt-then}

-- each statement counts four, since its call, its parts and lists of these take turns
abbrev pub code_size : Code → ℕ
code_size End = 0
code_size (Do step next) = 4 + code_size next
code_size (If test taken other next) = 4 + code_size taken + code_size other + code_size next
code_size (Loop body next) = 4 + code_size body + code_size next

size-then : (first after : Code) → code_size (first then after) ≡ code_size first + code_size after
size-then End after = omega arith
size-then (Do step next) after = omega (arith, size-then next after)
size-then (If test taken other next) after = omega (arith, size-then next after)
size-then (Loop body next) after = omega (arith, size-then next after)

size-front : (s : FlatStmt) (next : Code) → code_size (view_stmt s next) ≡ code_size (view_stmt s End) + code_size next
size-front s next = ap code_size (view_stmt-then s next) ∙ size-then (view_stmt s End) next

-- a statement of a list is no larger than the list
pub size-in : (list : List FlatStmt) (i : ℕ) (s : FlatStmt) → i < length list → s ≡ get_or list i s → code_size (view_stmt s End) ≤ code_size (view_list list)
size-in [] i s h e = absurd (omega (arith, h))
size-in (x ∷ list) zero s h e = let f = size-front x (view_list list) in omega (arith, f, ap (λ (y : FlatStmt). code_size (view_stmt y End)) e)
size-in (x ∷ list) (suc i) s h e = let f = size-front x (view_list list) in omega (arith, f, size-in list i s (omega (arith, h)) e)

-- ---- programs

abbrev pub routines_size : List Routine → ℕ
routines_size [] = 0
routines_size (r ∷ rs) = code_size r.body + routines_size rs

abbrev pub program_size : List UnitCode → ℕ
program_size [] = 0
program_size (unit ∷ units) = routines_size unit.routines + program_size units

routine-in : (rs : List Routine) (number : ℕ) (r : Routine) → slice_get rs number ≡ Some r → code_size r.body ≤ routines_size rs
routine-in [] number r e = absurd cc
routine-in (x ∷ rs) zero r e = let same : x ≡ r = cc in omega (arith, ap (λ (y : Routine). code_size y.body) same)
routine-in (x ∷ rs) (suc number) r e = omega (arith, routine-in rs number r e)

by_name : (same : Bool) (unit : UnitCode) (found : Option UnitCode) (size : ℕ) (result : UnitCode) → (if same then Some unit else found) ≡ Some result → (found ≡ Some result → routines_size result.routines ≤ size) → routines_size result.routines ≤ routines_size unit.routines + size
by_name true unit found size result e rest = let same : unit ≡ result = cc in omega (arith, ap (λ (y : UnitCode). routines_size y.routines) same)
by_name false unit found size result e rest = omega (arith, rest e)

unit-in : (at : ℕ) (units : List UnitCode) (name : Name) (unit : UnitCode) → unit_from at units name ≡ Some unit → routines_size unit.routines ≤ program_size units
unit-in at [] name unit e = absurd cc
unit-in at (x ∷ units) name unit e = by_name (same_bytes (name_at at x) name) x (unit_from (at + 1) units name) (program_size units) unit e (unit-in (at + 1) units name unit)

-- the body of each routine of a program is no larger than the program
pub body-in : (at : ℕ) (units : List UnitCode) (name : Name) (unit : UnitCode) (number : ℕ) (r : Routine) → unit_from at units name ≡ Some unit → slice_get unit.routines number ≡ Some r → code_size r.body ≤ program_size units
body-in at units name unit number r p q = omega (arith, unit-in at units name unit p, routine-in unit.routines number r q)

-- ---- measures

-- with so many turns left, in a program of that size
abbrev pub turns_left : ℕ → ℕ → ℕ
turns_left turns size = turns * (size + 1)

pub no_more : (t u size m n : ℕ) → t ≤ u → m < n → turns_left t size + m < turns_left u size + n
no_more t u size m n p q = grind arith

pub a_turn_less : (t u size : ℕ) → t < u → turns_left t size + (size + 1) ≤ turns_left u size
a_turn_less t u size p = grind arith

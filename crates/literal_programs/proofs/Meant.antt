-- What a program of literals means.
use Rattle.std.proofs.Common.{◌≡◌, ℕ, ◌+◌, ◌≤◌, Bool, true, false, List, [], ◌∷◌, ◌++◌, length, map, Some, None, refl, sym, ap, ◌∙◌, arith, append-nil, append_assoc}
use Rattle.std.specs.Prelude.{◌%◌, nat_lt, if◌then◌else◌, slice_get, Option, Ok}
use Rattle.std.proofs.lemmas.Bool.Decides.{nat_tests}
use Rattle.common_values.specs.behaviour.Seen.{Seen, Ended}
use Rattle.typed_tree.specs.declared.units.Routine.{Routine}
use Rattle.typed_tree.specs.declared.units.Unit.{Unit as TypedUnit}
use Rattle.typed_tree.specs.declared.units.Program.{Program}
use Rattle.typed_tree.specs.Statements.{view_stmt}
use Rattle.typed_tree.specs.Frames.{frame_of, even}
use Rattle.object_vmt.proofs.SlotLaws.{same_bytes_refl}
use Rattle.literal_programs.specs.literal_code.Statement.{Statement, write, halt, written, code_of, shown}
use Rattle.tp_meaning.specs.Trees.{Value}
use Rattle.tp_meaning.specs.Shapes.{new_tree}
use Rattle.tp_meaning.specs.Store.{Store, next_serial, with_new, without}
use Rattle.tp_meaning.specs.Programs.{is_overlaid}
use Rattle.tp_meaning.specs.Outcomes.{State, Outcome, Over, Does, ◌>>◌, and_then, give, looked, changed}
use Rattle.tp_meaning.specs.Activations.{Activation, Callee, callee_of, variable_object, result_trees, opened, levels_around, class_set, is_constructor, result_of}
use Rattle.tp_meaning.specs.Calls.{Flow, Next, Do, Runs, activation_of, activated, entered}
use Rattle.typed_tree.specs.type_fits.Routines.{variables_of}
use Rattle.tp_meaning.specs.Meaning.{run_by, run, start_state, start_activation, started, seen_so, seen_of, mean}
use Rattle.literal_programs.specs.Literals.{said, IsMain, Says}
use Rattle.literal_programs.proofs.Played.{behind, played, statement_played}

-- ---- the end of a run

abbrev seen_with : List ℕ → State → ℕ → Seen
seen_with out s code = record { out = out; err = s.err; end = Ended code }

-- what was written by a state, and then by statements
abbrev seen_after : State → List Statement → Seen
seen_after s xs = seen_with (s.out ++ written xs) s (code_of xs)

seen_nothing : (s : State) (code : ℕ) → seen_with s.out s code ≡ seen_with (s.out ++ []) s code
seen_nothing s code = ap (λ (out : List ℕ). seen_with out s code) (sym (append-nil s.out))

-- statements, behind which a run ends with code 0
played_seen : (leave : Flow → Does Value) (last : Does Value) → ((s : State) → seen_of (and_then (leave Next s) (λ _. last)) ≡ seen_so (Ended 0) s)
    → (xs : List Statement) (s : State) → seen_of (and_then (and_then (played xs s) leave) (λ _. last)) ≡ seen_after s xs
played_seen leave last ends [] s = ends s ∙ seen_nothing s 0
played_seen leave last ends (write bytes ∷ rest) s =
    played_seen leave last ends rest (behind bytes s) ∙ ap (λ (out : List ℕ). seen_with out s (code_of rest)) (append_assoc s.out bytes (written rest))
played_seen leave last ends (halt code ∷ rest) s = seen_nothing s code

-- ---- the start

-- a program of one unit
abbrev one_unit : TypedUnit → Program
one_unit unit = record { units = unit ∷ []; start = 0 }

abbrev program_of : List TypedUnit → ℕ → Program
program_of units start = record { units = units; start = start }

is_one_unit : (program : Program) (unit : TypedUnit) → program.units ≡ unit ∷ [] → program.start ≡ 0 → program ≡ one_unit unit
is_one_unit program unit alone first = ap (λ (units : List TypedUnit). program_of units program.start) alone ∙ ap (program_of (unit ∷ [])) first

main_found : (unit : TypedUnit) (number : ℕ) (routine : Routine) → slice_get unit.routines number ≡ Some routine
    → callee_of (one_unit unit) (record { unit = unit.name; number = number }) ≡ Ok (record { unit = unit; number = number; routine = routine })
main_found unit number routine there = rw (same_bytes_refl unit.name, there) refl

not_overlaid : (unit : TypedUnit) (name : List ℕ) → unit.overlaid ≡ [] → is_overlaid (one_unit unit) name ≡ false
not_overlaid unit name plain = rw plain refl

enough : (stack frame : ℕ) → frame + 512 ≤ even stack → nat_lt (stack + stack % 2) (0 + frame + 512) ≡ false
enough stack frame room = grind (arith, nat_tests)

same_either : {A : Type 0} (which : Bool) (x : A) → (if which then x else x) ≡ x
same_either true x = refl
same_either false x = refl

-- no instance, so no class of it
no_class : (callee : Callee) (store : Store) → class_set callee None None store ≡ Ok store
no_class callee store = same_either (is_constructor callee.routine.header.kind) (Ok store)

-- a routine of the program itself is entered, where the stack has room for it
main_entered : (unit : TypedUnit) (again : Runs) (number : ℕ) (routine : Routine) (s : State) → slice_get unit.routines number ≡ Some routine → unit.overlaid ≡ []
    → frame_of unit.types.types routine + 512 ≤ even unit.stack
    → entered (one_unit unit) again (start_activation unit) (record { unit = unit.name; number = number }) None None [] s
    ≡ activated again (record { unit = unit; number = number; routine = routine }) (start_activation unit) None None [] s
main_entered unit again number routine s there plain room =
    rw (main_found unit number routine there, not_overlaid unit unit.name plain, enough unit.stack (frame_of unit.types.types routine) room) refl

-- the state in which the body of a routine without parameters begins
abbrev begun : Callee → State → State
begun callee s = record s { store = with_new s.store (map variable_object (result_trees callee.unit.types.types callee.routine.header.result ++ map (new_tree callee.unit.types.types) callee.routine.locals)) }

-- what comes behind a body
abbrev leaving : Callee → ℕ → Flow → Does Value
leaving callee first flow s = and_then (looked (result_of callee first) s) (λ result. changed (λ store. Ok (without store first (length (variables_of callee.routine)))) >> give result)

body_begun : (again : Runs) (callee : Callee) (f : Activation) (s : State) → callee.routine.header.params ≡ [] → callee.routine.owner ≡ None → callee.routine.outer ≡ None
    → activated again callee f None None [] s
    ≡ and_then (again (Do (view_stmt callee.routine.body)) (activation_of callee [] (next_serial s.store) f.sum) (begun callee s)) (leaving callee (next_serial s.store))
body_begun again callee f s params owner outer =
    let levels : levels_around callee.routine.outer f.levels ≡ Ok [] = rw outer refl in
    let variables : opened callee None [] s.store ≡ Ok (begun callee s).store = rw (params, owner) refl in
    rw (levels, variables, no_class callee (begun callee s).store) refl

-- behind the body of a routine without result the run ends with code 0
ends_behind : (callee : Callee) (first : ℕ) → callee.routine.header.result ≡ None → (s : State)
    → seen_of (and_then (leaving callee first Next s) (λ _. Over (Ended 0))) ≡ seen_so (Ended 0) s
ends_behind callee first result s = rw result refl

-- the body does what it says
body_played : (unit : TypedUnit) (callee : Callee) (first sum : ℕ) (xs : List Statement) (s : State) → said callee.unit.types.types (view_stmt callee.routine.body) ≡ Some xs
    → run (one_unit unit) (Do (view_stmt callee.routine.body)) (activation_of callee [] first sum) s ≡ played xs s
unfolding run
body_played unit callee first sum xs s says =
    statement_played (one_unit unit) (run_by (one_unit unit) s.turns) (activation_of callee [] first sum) (view_stmt callee.routine.body) xs s says

unit_means : (unit : TypedUnit) (routine : Routine) (xs : List Statement) (input : List ℕ) (turns : ℕ) → IsMain unit routine → unit.overlaid ≡ []
    → said unit.types.types (view_stmt routine.body) ≡ Some xs → mean (one_unit unit) input turns ≡ shown xs
unit_means unit routine xs input turns main plain says =
    let program : Program = one_unit unit in
    let again : Runs = run program in
    let s : State = start_state program input turns in
    let callee : Callee = record { unit = unit; number = main.number; routine = routine } in
    let f : Activation = start_activation unit in
    let first : ℕ = next_serial s.store in
    let last : Value → Does Value = λ _. Over (Ended 0) in
    let initial : started program again unit unit.initial s ≡ started program again unit (Some main.number) s = ap (λ (number : Option ℕ). started program again unit number s) main.initial in
    let entry = main_entered unit again main.number routine s main.there plain main.room in
    let body = body_begun again callee f s main.params main.owner main.outer in
    let plays = body_played unit callee first f.sum xs (begun callee s) says in
    ap (λ (o : Outcome Value). seen_of (and_then o last)) (initial ∙ entry ∙ body ∙ ap (λ (o : Outcome Flow). and_then o (leaving callee first)) plays)
    ∙ played_seen (leaving callee first) (Over (Ended 0)) (ends_behind callee first main.result) xs (begun callee s)

pub means : (statements : List Statement) (program : Program) (input : List ℕ) (turns : ℕ) → Says program statements → mean program input turns ≡ shown statements
means statements program input turns says =
    ap (λ (program : Program). mean program input turns) (is_one_unit program says.unit says.alone says.start)
    ∙ unit_means says.unit says.routine statements input turns says.main says.plain says.says

-- Units that are the same but for where their statements lie in memory.
use Rattle.std.proofs.Common.{◌≡◌, ℕ, zero, suc, ◌+◌, ◌≤◌, cond, List, [], ◌∷◌, map, Some, is_some, refl, sym, ap, ap₂, ◌∙◌, subst}
use Rattle.std.specs.Prelude.{slice_get, sum_by, option_map}
use Rattle.std.proofs.lemmas.Option.{slice_get-map}
use Rattle.type_layout.specs.declared.definitions.TypeDef.{TypeDef}
use Rattle.typed_tree.specs.declared.units.Routine.{Routine}
use Rattle.typed_tree.specs.declared.units.Unit.{Unit as TypedUnit}
use Rattle.typed_tree.specs.Statements.{view_stmt}
use Rattle.typed_tree.specs.Needs.{statement_need}
use Rattle.typed_tree.specs.Frames.{even, param_bytes, even_size, copy_bytes, class_argument, result_argument, result_bytes, frame_of}
use Rattle.tp_check_decl.specs.Units.{Finished, Whole, view_routine, view_unit}
use Rattle.literal_programs.specs.Literals.{IsMain}

-- ---- routines

abbrev argument_bytes : List TypeDef → Finished → ℕ
argument_bytes types one =
    sum_by (param_bytes types) one.header.params
    + (cond (is_some one.owner) 4 0 + (class_argument one.header.kind + result_argument types one.header.result))

abbrev local_bytes : List TypeDef → Finished → ℕ
local_bytes types one =
    sum_by (even_size types) one.locals
    + (sum_by (copy_bytes types) one.header.params + result_bytes types one.header.result)

-- the frame of a routine, wherever its statements lie
abbrev frame_by : List TypeDef → Finished → ℕ
frame_by types one =
    argument_bytes types one
    + (cond (is_some one.outer) 2 0 + (cond one.far 4 2 + (2 + (local_bytes types one + statement_need types one.body))))

frame_is : (types : List TypeDef) (routine : Routine) → frame_of types routine ≡ frame_by types (view_routine routine)
frame_is types routine = refl

pub frames_alike : (types others : List TypeDef) (one other : Routine) → types ≡ others → view_routine one ≡ view_routine other → frame_of types one ≡ frame_of others other
frames_alike types others one other p q = frame_is types one ∙ ap₂ frame_by p q ∙ sym (frame_is others other)

pub routine_there : (ones others : List Routine) → map view_routine ones ≡ map view_routine others → (number : ℕ) (one : Routine) → slice_get ones number ≡ Some one
    → (other : Routine) × (slice_get others number ≡ Some other) × (view_routine one ≡ view_routine other)
routine_there [] others same number one at = absurd (cc)
routine_there (x ∷ ones) [] same number one at = absurd cc
routine_there (x ∷ ones) (y ∷ others) same zero one at =
    let first : x ≡ one = cc in
    let views : view_routine x ≡ view_routine y = cc in
    (y, refl, ap view_routine (sym first) ∙ views)
routine_there (x ∷ ones) (y ∷ others) same (suc number) one at =
    let rest : map view_routine ones ≡ map view_routine others = cc in
    routine_there ones others rest number one at

-- ---- units

module _ (one other : TypedUnit) (same : view_unit one ≡ view_unit other) where
  pub types_alike : one.types.types ≡ other.types.types
  types_alike = ap (λ (w : Whole). w.types.types) same

  pub overlaid_alike : one.overlaid ≡ other.overlaid
  overlaid_alike = ap (λ (w : Whole). w.overlaid) same

  stacks_alike : one.stack ≡ other.stack
  stacks_alike = ap (λ (w : Whole). w.stack) same

  -- the main part of the one is that of the other
  pub main_alike : (routine : Routine) → IsMain one routine → (found : Routine) × (view_routine routine ≡ view_routine found) × IsMain other found
  main_alike routine main =
      let routines : map view_routine one.routines ≡ map view_routine other.routines = ap (λ (w : Whole). w.routines) same in
      let initial : one.initial ≡ other.initial = ap (λ (w : Whole). w.initial) same in
      let found = routine_there one.routines other.routines routines main.number routine main.there in
      let frame : frame_of one.types.types routine ≡ frame_of other.types.types found.0 = frames_alike one.types.types other.types.types routine found.0 types_alike found.2 in (
        found.0,
        found.2,
        record {
          number = main.number;
          initial = sym initial ∙ main.initial;
          there = found.1;
          params = sym (ap (λ (f : Finished). f.header.params) found.2) ∙ main.params;
          result = sym (ap (λ (f : Finished). f.header.result) found.2) ∙ main.result;
          owner = sym (ap (λ (f : Finished). f.owner) found.2) ∙ main.owner;
          outer = sym (ap (λ (f : Finished). f.outer) found.2) ∙ main.outer;
          stack = subst (λ (n : ℕ). n ≤ 65520) stacks_alike main.stack;
          room = subst (λ (n : ℕ). n + 512 ≤ even other.stack) frame (subst (λ (n : ℕ). frame_of one.types.types routine + 512 ≤ even n) stacks_alike main.room);
        },
      )

  pub bodies_alike : (routine found : Routine) → view_routine routine ≡ view_routine found → view_stmt routine.body ≡ view_stmt found.body
  bodies_alike routine found views = ap (λ (f : Finished). f.body) views

-- a list of one unit
pub one_unit : (units : List TypedUnit) (whole : Whole) → map view_unit units ≡ whole ∷ [] → (unit : TypedUnit) × (units ≡ unit ∷ []) × (whole ≡ view_unit unit)
one_unit [] whole same = absurd cc
one_unit (unit ∷ []) whole same = let first : whole ≡ view_unit unit = cc in (unit, refl, first)
one_unit (unit ∷ other ∷ units) whole same = absurd cc

pub unit_at : (ones others : List TypedUnit) → map view_unit ones ≡ map view_unit others → (number : ℕ) → option_map view_unit (slice_get ones number) ≡ option_map view_unit (slice_get others number)
unit_at ones others same number = sym (slice_get-map view_unit ones number) ∙ ap (λ (units : List Whole). slice_get units number) same ∙ slice_get-map view_unit others number

-- Typed units of what was read.
use Rattle.std.proofs.Common.{◌≡◌, ◌∙◌, ℕ, true, false, All, List, [], ◌∷◌, map, Option, Some, None, is_some, refl, sym, ap, subst}
use Rattle.std.specs.Prelude.{slice_get}
use Rattle.std.specs.Option.{option_map}
use Rattle.std.proofs.lemmas.List.Elements.{All-nil, All-cons, All-head, All-tail}
use Rattle.std.proofs.lemmas.Option.{slice_get-map, slice_get_within, get_or_from_slice_get}
use Rattle.shared_types_agree.specs.type_layout.declared.definitions.TypeId.{TypeId}
use Rattle.shared_types_agree.specs.type_layout.declared.definitions.TypeDef.{TypeDef}
use Rattle.shared_types_agree.specs.syntax_tree.declared.statement.CompoundStatement.{CompoundStatement}
use Rattle.shared_types_agree.specs.syntax_tree.declared.source_tree.source.Tree.TheVariants as t
use Rattle.shared_types_agree.specs.typed_tree.declared.units.Global.{Global}
use Rattle.shared_types_agree.specs.typed_tree.declared.units.Item.{Item}
use Rattle.shared_types_agree.specs.typed_tree.declared.units.Routine.{Routine}
use Rattle.shared_types_agree.specs.typed_tree.declared.units.Unit as typed
use Rattle.shared_types_agree.specs.scopes.Environment.{Environment}
use Rattle.shared_types_agree.specs.tp_check_decl.declared.routines.drafts.Announced.{Announced}
use Rattle.shared_types_agree.specs.tp_check_decl.routines.Drafts.{Done, Numbered, Drafted, knowing}
use Rattle.shared_types_agree.specs.tp_check_decl.routines.Trees.{view_declarations}
use Rattle.shared_types_agree.specs.tp_meaning.Programs.{is_overlay}
use Rattle.shared_types_agree.specs.units_well_formed.units.Below.{Finished, Whole, view_routine, view_unit, finished_by, all_finished, ended, items_of}
use Rattle.shared_types_agree.specs.tp_check_decl.Endings.{main_judged}
use Rattle.shared_types_agree.specs.program_typing.programs.WellTyped.{NeedsClass, IsSoundRoutine, IsFirstOf, HasFirst}
use Rattle.shared_types_agree.specs.unit_references.Units.{HasSoundParts}
use Rattle.programs_well_typed.specs.units.Sound.{AreBytes, BeginsWithBytes, HasFewVariables, IsHeld}
use Rattle.programs_well_typed.specs.units.Laws.{UnitLaw}
use Rattle.programs_well_typed.proofs.units.Each.{Each, each_at, each_on}
use Rattle.programs_well_typed.proofs.units.Plain.{plain_of}
use Rattle.programs_well_typed.proofs.units.Dynamic.{IsDynamic, class_part}
use Rattle.programs_well_typed.proofs.units.Objects.{IsSoundSlot}
use Rattle.programs_well_typed.proofs.units.Firsts.{HasPlainType, BeginsPlain}
use Rattle.programs_well_typed.proofs.units.Reading.{IsSound, interface_open, program_open, implemented_open, used_open}

-- ---- routines with their blocks

record IsSoundCode (types : List TypeDef) (one : Finished) : Type 0 where
  method : is_some one.owner ≡ true → one.outer ≡ None
  class : NeedsClass one.header.kind → IsDynamic types one.owner

finished_sound : (types : List TypeDef) (first : Announced) (o : Option Done) (one : Finished) → (finished_by types first o).holds one → IsSoundSlot types (record { first = first; done = o }) → IsSoundCode types one
finished_sound types first None one h s = absurd h
finished_sound types first (Some done) one h s = subst (λ (x : Finished). IsSoundCode types x) (sym h.made) (record { method = s.method; class = s.class })

all_sound : (types : List TypeDef) (slots : List Numbered) (all : List Finished) → (all_finished types slots).holds all → Each (IsSoundSlot types) slots → Each (IsSoundCode types) all
all_sound types [] all h s = subst (λ (x : List Finished). Each (IsSoundCode types) x) (sym h) tt
all_sound types (one ∷ rest) all h s =
    subst (λ (x : List Finished). Each (IsSoundCode types) x) (sym h.made)
    (finished_sound types one.first one.done h.left h.left_holds (record { method = s.0.method; class = s.0.class }), all_sound types rest h.right h.right_holds s.1)

main_sound : (types : List TypeDef) (name : List ℕ) (g : Environment) (body : CompoundStatement) (one : Finished) → (main_judged name g body).holds one → IsSoundCode types one
unfolding main_judged
main_sound types name g body one h =
    subst (λ (x : Finished). IsSoundCode types x) (sym h.made.made) (record { method = λ some. (let bad : false ≡ true = some in cc); class = λ made. tt })

-- ---- units

-- what is known of a typed unit
record IsSoundWhole (name : List ℕ) (unit : Whole) : Type 0 where
  named : unit.name ≡ name
  firsts : Each (BeginsPlain unit.types.types) unit.globals
  code : Each (IsSoundCode unit.types.types) unit.routines

ended_sound : (name : List ℕ) (front : _) (items : List Item) (body : Option CompoundStatement) (d : Drafted) (unit : Whole) → (ended name front items body d).holds unit → IsSound d → IsSoundWhole name unit
ended_sound name front items None d unit h s =
    subst (λ (x : Whole). IsSoundWhole name x) (sym h.made) (record { named = refl; firsts = s.firsts; code = all_sound d.scope.types.types d.routines h.part h.holds s.slots })
ended_sound name front items (Some body) d unit h s =
    let types : List TypeDef = d.scope.types.types in
    subst (λ (x : Whole). IsSoundWhole name x) (sym h.made) (record {
      named = refl;
      firsts = s.firsts;
      code = each_on (IsSoundCode types) h.left (h.right ∷ []) (all_sound types d.routines h.left h.left_holds s.slots) (main_sound types name d.scope body h.right h.right_holds, tt);
    })

first_of : (types : List TypeDef) (ty : TypeId) (first : Option (List ℕ)) → HasPlainType types ty first → AreBytes first → IsFirstOf types ty first
first_of types ty None h b = tt
first_of types ty (Some bytes) h b = (plain_of types ty h, b)

globals_first : (unit : typed.Unit) (all : List Global) → Each (BeginsPlain unit.types.types) all → All BeginsWithBytes all → All (HasFirst unit) all
globals_first unit [] h b = All-nil (HasFirst unit)
globals_first unit (one ∷ rest) h b =
    All-cons (HasFirst unit) one rest (first_of unit.types.types one.ty one.first h.0 (All-head BeginsWithBytes one rest b)) (globals_first unit rest h.1 (All-tail BeginsWithBytes one rest b))

few_at : (routines : List Routine) (number : ℕ) (routine : Routine) → All HasFewVariables routines → slice_get routines number ≡ Some routine → HasFewVariables routine
few_at routines number routine few at =
    subst (λ (x : Routine). HasFewVariables x) (get_or_from_slice_get routines number routine routine at) (few number routine (slice_get_within routines number routine at))

routine_sound : (unit : typed.Unit) → Each (IsSoundCode unit.types.types) (map view_routine unit.routines) → All HasFewVariables unit.routines
    → (number : ℕ) (routine : Routine) → slice_get unit.routines number ≡ Some routine → IsSoundRoutine unit routine
routine_sound unit code few number routine at =
    let viewed : slice_get (map view_routine unit.routines) number ≡ Some (view_routine routine) =
    slice_get-map view_routine unit.routines number ∙ ap (λ (o : Option Routine). option_map view_routine o) at in
    let s : IsSoundCode unit.types.types (view_routine routine) = each_at (IsSoundCode unit.types.types) (map view_routine unit.routines) number (view_routine routine) code viewed in
    record {
      few = few_at unit.routines number routine few at;
      method = s.method;
      class = λ made. class_part unit.types routine.owner (s.class made);
    }

whole_sound : (name : List ℕ) (unit : typed.Unit) → is_overlay name ≡ false → IsSoundWhole name (view_unit unit) → IsHeld unit → HasSoundParts unit
whole_sound name unit own s held = record {
  own = ap is_overlay s.named ∙ own;
  globals = globals_first unit unit.globals s.firsts held.bytes;
  routines = routine_sound unit s.code held.few;
}

pub unit_sound : UnitLaw
unit_sound name says g have (t.Program heading uses all body) unit own h held =
    let front = h.made in
    let d = front.made in
    whole_sound name unit own (ended_sound name front.part [] (Some body) d.part (view_unit unit) d.made (program_open name g (view_declarations all.items) d.part d.holds).sound) held
unit_sound name says g have (t.Unit here mine uses outer interface all body) unit own h held =
    let front = h.made in
    let d : Drafted = front.part in
    let used = front.made in
    let last = used.made in
    let first = interface_open name g interface.items d front.holds in
    let second = used_open have d _ used.part used.holds first in
    let third = implemented_open name (knowing d used.part) (view_declarations all.items) last.part last.holds second in
    whole_sound name unit own (ended_sound name h.part (items_of d.scope) body last.part.draft (view_unit unit) last.made third.sound) held

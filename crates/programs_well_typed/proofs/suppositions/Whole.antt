-- What the units of a program suppose of one another is so.
use Rattle.std.proofs.Common.{refl, ◌≡◌, ◌∙◌, inl, inr, ℕ, ◌<◌, true, false, List, length, Some, None, sym, ap, subst}
use Rattle.std.specs.Prelude.{◌^◌, slice_get, is_some}
use Rattle.shared_types_agree.specs.source_graph.declared.sources.Source.{Source}
use Rattle.shared_types_agree.specs.typed_tree.declared.units.Routine.{Routine}
use Rattle.shared_types_agree.specs.typed_tree.declared.units.Unit as typed
use Rattle.shared_types_agree.specs.typed_tree.declared.units.Program.{Program}
use Rattle.shared_types_agree.specs.well_formed.Scopes.{IsOneOf, OtherUnit, OtherGlobal, OtherRoutine}
use Rattle.shared_types_agree.specs.scopes.Symbols.{SymbolList}
use Rattle.shared_types_agree.specs.scopes.Environment.{Environment}
use Rattle.shared_types_agree.specs.scopes.Predeclared.{first}
use Rattle.shared_types_agree.specs.tp_meaning.Programs.{is_overlay}
use Rattle.shared_types_agree.specs.store_typing.types.Agreement.{IsUnit, AreConsistent}
use Rattle.shared_types_agree.specs.store_typing.classes.Laws.{HasDeclarers}
use Rattle.shared_types_agree.specs.program_typing.lvalues.Frames.{IsGlobalOf}
use Rattle.shared_types_agree.specs.unit_interface.declared.interfaces.Interface.{Interface}
use Rattle.shared_types_agree.specs.unit_interface.Keyed.{IsKeyed}
use Rattle.shared_types_agree.specs.unit_interface.Order.{start_order}
use Rattle.shared_types_agree.specs.unit_interface.Resolve as resolve
use Rattle.shared_types_agree.specs.unit_interface.Resolve.{interface_named}
use Rattle.shared_types_agree.specs.source_graph.source_order.Orders.{all_uses, names_of}
use Rattle.shared_types_agree.specs.scopes.declared.entries.Entry.TheVariants as entry
use Rattle.programs_well_formed.specs.programs.Laws.{WholeLaw}
use Rattle.shared_types_agree.specs.methods.Below.{outer_units, outer_scope, view_unit, others_of, IsRoomy, end_scope, AreInOrder, ShowsAlike, ConsistencyLaw, ListedLaw, DeclarersLaw}
use Rattle.shared_types_agree.proofs.methods.Below.{unit_told_from, global_told_from, routine_told_from, each_told, listed, typed_at}
use Rattle.shared_types_agree.proofs.methods.Whole.{HasOwn, unit_methods}
use Rattle.shared_types_agree.specs.unit_references.Held.{IsRoutineHeld, AreHeld}
use Rattle.shared_types_agree.specs.unit_references.Units.{HasSoundParts}
use Rattle.programs_well_typed.specs.suppositions.Laws.{SupportedLaw}
use Rattle.programs_well_typed.proofs.suppositions.Brought.{IsBrought, IsBringing, first_bringing, uses_bring}
use Rattle.programs_well_typed.proofs.suppositions.Shown.{IsShownUnit}
use Rattle.programs_well_typed.proofs.suppositions.Used.{IsVariableBy, IsRoutineBy, brought_global, brought_routine}
use Rattle.programs_well_typed.proofs.suppositions.Methods.{told_held}
use Rattle.programs_well_typed.proofs.suppositions.Scopes.{end_types, end_names, end_brings}
use Rattle.programs_well_typed.proofs.suppositions.Units as units
use Rattle.programs_well_typed.proofs.suppositions.Units.{all_at, shown_unit}

-- ---- one unit, by the scope at its end

module _ (have : List Interface) (program : Program) (agreed : AreConsistent program) (declarers : HasDeclarers program) (own : (unit : typed.Unit) → IsUnit program unit → HasOwn unit)
    (parts : (unit : typed.Unit) → IsUnit program unit → HasSoundParts unit) (shown : (word : List ℕ) → resolve.is_overlay word ≡ false → (i : Interface) → interface_named have word ≡ Some i → IsShownUnit program i) where
  none_overlay : (unit : typed.Unit) → IsUnit program unit → is_overlay unit.name ≡ false
  none_overlay unit there = (parts unit there).own

  outermost : (unit : typed.Unit) → IsUnit program unit → (number : ℕ) (routine : Routine) → slice_get unit.routines number ≡ Some routine → is_some routine.owner ≡ true → routine.outer ≡ None
  outermost unit there number routine at = ((parts unit there).routines number routine at).method

  module _ (unit : typed.Unit) (there : IsUnit program unit) (keyed : IsKeyed unit.types) (few : length unit.names < 2 ^ 32) (h : Environment) (table : h.types ≡ unit.types) (names : h.units ≡ unit.names)
      (b : IsBringing have h) where
    list_at : (place : ℕ) (symbols : SymbolList) → slice_get h.used place ≡ Some symbols → IsBrought have h symbols
    list_at place symbols at = all_at (IsBrought have h) h.used place symbols b.used at

    unit_so : (one : OtherUnit) → IsOneOf one (others_of h).units → slice_get unit.names one.number ≡ Some one.name
    unit_so one at = ap (λ (us : List (List ℕ)). slice_get us one.number) (sym names) ∙ unit_told_from h one at

    global_so : (one : OtherGlobal) → IsOneOf one (others_of h).globals → IsGlobalOf program unit one.unit one.number one.ty
    global_so one at =
        let t = global_told_from h one at in
        let b = t.1 in
        let by : IsVariableBy b.names one = record {
          named = (b.name, entry.Var one.unit t.0 one.number one.ty);
          among = record { place = b.named.0; at = b.named.1 };
          level = t.0;
          is = refl;
        } in
        brought_global have program unit there keyed h table names shown b.names (list_at b.unit.0 b.names b.unit.1) one by

    routine_so : (one : OtherRoutine) → IsOneOf one (others_of h).routines → IsRoutineHeld program unit one
    routine_so one at =
        elim (routine_told_from h one at) [
          | inl f ↦
              let b = f.brought in
              let by : IsRoutineBy b.names one = record {
                named = (b.name, entry.Code one.routine f.level f.header f.far);
                among = record { place = b.named.0; at = b.named.1 };
                level = f.level;
                far = f.far;
                is = ap (λ (r : OtherRoutine). entry.Code one.routine f.level r.seen.header f.far) f.seen;
                owner = ap (λ (r : OtherRoutine). r.seen.owner) (sym f.seen);
              } in
              brought_routine have program unit there keyed h table names shown b.names (list_at b.unit.0 b.names b.unit.1) one by
          | inr method ↦ told_held program agreed declarers own none_overlay outermost unit there few h table names one method
        ]

    pub all_held : AreHeld program unit (others_of h)
    all_held = record { units = unit_so; globals = λ one at low. global_so one at; routines = λ one at low. routine_so one at }

-- ---- the units of a program

pub all_supported : ShowsAlike → ConsistencyLaw → ListedLaw → DeclarersLaw → WholeLaw → SupportedLaw
all_supported alike agreed by_name declarers whole held name texts sources gathers program is written room kept parts unit there =
    let u = is.units in
    let have : List Interface = u.have in
    let o : AreInOrder sources have = record { held = held; name = name; texts = texts; gathers = gathers; acyclic = u.acyclic; shown = u.interfaces.shown } in
    let formed = whole held name texts sources gathers program is written room in
    let l = listed program.units unit.name unit there in
    let t = typed_at sources have (start_order (all_uses sources) 0) program.units l.number unit u.typed l.at in
    let s : Source = t.source in
    let roomy : IsRoomy unit = all_at IsRoomy program.units l.number unit room l.at in
    let end = formed.1 t.place s t.at unit t.is roomy in
    let told = units.unit_told sources have o u.interfaces.all u.kinds t.place s t.at unit t.is in
    let keys : (word : List ℕ) → resolve.is_overlay word ≡ false → (i : Interface) → interface_named have word ≡ Some i → IsKeyed i.types = λ word other i found. (each_told sources have o word other i found).told.keyed in
    let g : Environment = outer_scope have s in
    let h : Environment = end_scope s.name s.says g have s.tree (view_unit unit) t.is.typed in
    let table : h.types ≡ unit.types = end_types have keys s.name s.says g s.tree (view_unit unit) t.is.typed in
    let keyed : IsKeyed unit.types = told.told.told.keyed in
    let begun : IsBringing have g = uses_bring have keys (first s.name) (names_of (outer_units s)) (first_bringing have s.name) in
    let brings = end_brings have keys s.name s.says g s.tree (view_unit unit) t.is.typed begun told.used (subst IsKeyed (sym table) keyed) in
    let part_of = λ (one : typed.Unit) (here : IsUnit program one). (let k = listed program.units one.name one here in all_at HasSoundParts program.units k.number one parts k.at) in
    let shown = shown_unit sources have o u.interfaces.all u.kinds alike program u.typed (by_name held name texts sources gathers program is) formed.0 parts in
    let all =
    all_held have program (agreed held name texts sources gathers program is kept) (declarers held name texts sources gathers program is) (unit_methods held name texts sources gathers program is) part_of shown unit there keyed roomy.names h table
    (end_names have keys s.name s.says g s.tree (view_unit unit) t.is.typed) brings in
    record { formed = end.formed; held = subst (AreHeld program unit) (sym end.others) all }

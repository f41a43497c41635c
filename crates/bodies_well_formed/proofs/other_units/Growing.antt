-- What is known stays so as declarations follow.
use Rattle.std.proofs.Common.{◌≡◌, ℕ, zero, suc, List, [], ◌∷◌, get_or, Option, Some, None, refl, sym, subst, ap, ◌∙◌}
use Rattle.std.specs.Prelude.{slice_get}
use Rattle.std.proofs.lemmas.List.Elements.{All-weaker}
use Rattle.tp_check_stmt.specs.type_layout.declared.definitions.TypeId.{TypeId}
use Rattle.tp_check_stmt.specs.type_layout.declared.definitions.RoutineId.{RoutineId}
use Rattle.tp_check_stmt.specs.type_layout.declared.definitions.Param.{Param}
use Rattle.tp_check_stmt.specs.type_layout.declared.definitions.Header.{Header}
use Rattle.tp_check_stmt.specs.type_layout.declared.definitions.TypeDef.{TypeDef}
use Rattle.tp_check_stmt.specs.type_layout.Table.{Table}
use Rattle.tp_check_stmt.specs.typed_tree.declared.expressions.Value.{Value}
use Rattle.tp_check_stmt.specs.typed_tree.declared.units.Routine.{Routine}
use Rattle.tp_check_stmt.specs.typed_tree.type_fits.Fits.{definition, IsSome, IsValue}
use Rattle.tp_check_stmt.specs.typed_tree.type_fits.Routines.{variables_of}
use Rattle.rules_well_formed.specs.well_formed.Scopes.{IsOneOf, Prototype, prototype, Others, Scope, IsNamed, IsGlobal, IsRoutineAt, HasRoutine}
use Rattle.rules_well_formed.specs.well_formed.Typed.{IsRoutineValue}
use Rattle.tp_check_stmt.specs.scopes.declared.entries.Entry.{Entry}
use Rattle.tp_check_stmt.specs.scopes.declared.entries.Entry.TheVariants as entry
use Rattle.tp_check_stmt.specs.scopes.declared.searches.OpenBlock.{OpenBlock}
use Rattle.tp_check_stmt.specs.scopes.Symbols.{SymbolList}
use Rattle.tp_check_stmt.specs.scopes.Environment.{Environment}
use Rattle.tp_check_stmt.specs.call_rules.method_rules.Slots.{methods_of}
use Rattle.rules_well_formed.specs.nodes.Tables.{IsInTable, IsResultIn, IsHeaderIn, IsSound}
use Rattle.rules_well_formed.specs.methods.Declared.{IsMethod, HasMethods}
use Rattle.rules_well_formed.specs.well_formed.weakening.Weakening.{IsSame, Weakens}
use Rattle.rules_well_formed.proofs.well_formed_proofs.weakening.Types.{more_kept, more_value}
use Rattle.bodies_well_formed.specs.other_units.Known.{opening, open_in, AreNested, IsDeep, IsVariableIn, IsAtDepth, IsDeclaredIn, IsEntry, EachOf, EachIn, IsPlaced, AreKnown, variables_at, levels_in, scope_over}
use Rattle.bodies_well_formed.specs.other_units.Growing.{Extends}
use Rattle.bodies_well_formed.specs.other_units.Laws.{typing}

-- ---- routines with the same header

prototype_same : (one other : Routine) → IsSame one other → prototype one ≡ prototype other
prototype_same one other h = let a = h.header in let b = h.owner in let c = h.outer in let d = h.far in cc

module _ (s t : Scope) (e : Extends s t) (sound : IsSound s.types) where
  type_kept : (ty : TypeId) → IsInTable s.types ty → IsInTable t.types ty
  type_kept ty h =
      let same : definition t.types ty ≡ definition s.types ty = ap (λ (types : List TypeDef). definition types ty) e.types.1 ∙ more_kept s.types e.types.0 ty h in
      subst (λ (o : Option TypeDef). IsSome o) (sym same) h

  result_kept : (o : Option TypeId) → IsResultIn s.types o → IsResultIn t.types o
  result_kept None h = tt
  result_kept (Some ty) h = type_kept ty h

  header_kept : (header : Header) → IsHeaderIn s.types header → IsHeaderIn t.types header
  header_kept header h = record {
    params = All-weaker (λ (param : Param). IsInTable s.types param.ty) (λ (param : Param). IsInTable t.types param.ty) (λ param k. type_kept param.ty k) header.params h.params;
    result = result_kept header.result h.result;
  }

  value_kept : (v : Value) (ty : TypeId) → IsValue s.types v (definition s.types ty) → IsValue t.types v (definition t.types ty)
  value_kept v ty h = subst (λ (types : List TypeDef). IsValue types v (definition types ty)) (sym e.types.1) (more_value s.types e.types.0 sound.defined v ty h)

  routine_at : (Asked : Prototype → Type 0) → (unit number : ℕ) → IsRoutineAt Asked s unit number → IsRoutineAt Asked t unit number
  routine_at Asked zero number h =
      let it = e.routines number h.0 h.1 in
      (it.0, it.1, subst Asked (prototype_same h.0 it.0 it.2.same) h.2)
  routine_at Asked (suc unit) number h = (h.0, e.others.routines (record { routine = record { unit = suc unit; number = number }; seen = h.0 }) h.1, h.2)

  routine_kept : (Asked : Prototype → Type 0) → (routine : RoutineId) → HasRoutine Asked s routine → HasRoutine Asked t routine
  routine_kept Asked routine h = routine_at Asked routine.unit routine.number h

  named_kept : (unit : ℕ) → IsNamed s unit → IsNamed t unit
  named_kept zero h = tt
  named_kept (suc unit) h = (h.0, e.others.units (record { number = suc unit; name = h.0 }) h.1)

  deep_kept : (level : ℕ) (outer : Option ℕ) → IsDeep s.routines level outer → IsDeep t.routines level outer
  deep_kept zero None h = tt
  deep_kept zero (Some number) h = absurd h
  deep_kept (suc level) None h = absurd h
  deep_kept (suc level) (Some number) h =
      let it = e.routines number h.0 h.1 in
      (it.0, it.1, subst (λ (o : Option ℕ). IsDeep t.routines level o) it.2.same.outer (deep_kept level h.0.outer h.2))

  pub nested_kept : (around : List ℕ) → AreNested s.routines around → AreNested t.routines around
  nested_kept [] h = tt
  nested_kept (number ∷ around) h =
      let it = e.routines number h.0.0 h.0.1 in
      ((it.0, it.1, sym it.2.same.outer ∙ h.0.2), nested_kept around h.1)

  global_kept : (unit number : ℕ) (ty : TypeId) → IsGlobal s unit number ty → IsGlobal t unit number ty
  global_kept zero number ty h = e.globals number ty h
  global_kept (suc unit) number ty h = e.others.globals (record { unit = suc unit; number = number; ty = ty }) h

  variable_kept : (around : List ℕ) (level unit number : ℕ) (ty : TypeId) → IsVariableIn s around level unit number ty → IsVariableIn t around level unit number ty
  variable_kept around zero unit number ty h = global_kept unit number ty h
  variable_kept around (suc level) unit number ty h =
      let it = e.routines h.routine h.one h.is in
      record { routine = h.routine; opened = h.opened; one = it.0; is = it.1; variable = it.2.variables number ty h.variable }

  depth_kept : (unit number level : ℕ) → IsAtDepth s unit number level → IsAtDepth t unit number level
  depth_kept zero number level h =
      let it = e.routines number h.0 h.1 in
      (it.0, it.1, subst (λ (o : Option ℕ). IsDeep t.routines level o) it.2.same.outer (deep_kept level h.0.outer h.2))
  depth_kept (suc unit) number level h = tt

  pub entry_kept : (around : List ℕ) (one : Entry) → IsEntry s around one → IsEntry t around one
  entry_kept around (entry.Const ty v) h = value_kept v ty h
  entry_kept around (entry.Ty ty) h = type_kept ty h
  entry_kept around (entry.Var unit level number ty) h = (type_kept ty h.0, variable_kept around level unit number ty h.1)
  entry_kept around (entry.Code routine level header far) h =
      (routine_kept (IsDeclaredIn around header) routine h.0, header_kept header h.1, λ f l. (routine_kept (IsRoutineValue header) routine (h.2 f l).0, named_kept routine.unit (h.2 f l).1), depth_kept routine.unit routine.number level h.3)
  entry_kept around (entry.Std number) h = tt

  entries_kept : (around : List ℕ) (symbols : SymbolList) → EachOf (IsEntry s around) symbols → EachOf (IsEntry t around) symbols
  entries_kept around [] h = tt
  entries_kept around (one ∷ rest) h = (entry_kept around one.1 h.0, entries_kept around rest h.1)

  blocks_kept : (around : List ℕ) (blocks : List OpenBlock) → EachIn (IsEntry s) around blocks → EachIn (IsEntry t) around blocks
  blocks_kept around [] h = tt
  blocks_kept around (one ∷ blocks) h = (entries_kept (opening one.kind around) one.symbols h.0, blocks_kept (opening one.kind around) blocks h.1)

  -- methods stay where the types do, and what is supposed of other units
  pub methods_kept : (g : Environment) → HasMethods g s → t.types ≡ s.types → t.others ≡ s.others → HasMethods g t
  methods_kept g h is others = record {
    types = is ∙ h.types;
    units = λ one k. h.units one (subst (λ (o : Others). IsOneOf one o.units) others k);
    methods = λ class number method routine m r. routine_kept (IsMethod class method.header) routine
        (h.methods class number method routine (subst (λ (types : List TypeDef). slice_get (methods_of (definition types class)) number ≡ Some method) is m) r);
  }

  pub levels_kept : (around : List ℕ) (level number : ℕ) (ty : TypeId) → AreNested s.routines around → slice_get (get_or (levels_in s.routines around) level []) number ≡ Some ty
      → slice_get (get_or (levels_in t.routines around) level []) number ≡ Some ty
  levels_kept [] level number ty n h = h
  levels_kept (first ∷ around) zero number ty n h =
      let it = e.routines first n.0.0 n.0.1 in
      let here : slice_get (variables_of n.0.0) number ≡ Some ty = subst (λ (o : Option Routine). slice_get (variables_at o) number ≡ Some ty) n.0.1 h in
      subst (λ (o : Option Routine). slice_get (variables_at o) number ≡ Some ty) (sym it.1) (it.2.variables number ty here)
  levels_kept (first ∷ around) (suc level) number ty n h = levels_kept around level number ty n.1 h

module _ (g : Environment) (s : Scope) (h : AreKnown g s) where
  pub further_known : (types : Table) (t : Scope) → Extends s t → HasMethods (typing g types) t → IsSound t.types
      → ((number : ℕ) (one : Routine) → slice_get t.routines number ≡ Some one → IsPlaced one) → AreKnown (typing g types) t
  further_known types t e has sound placed = record {
    has = has;
    sound = sound;
    nested = nested_kept s t e h.sound (open_in g) h.nested;
    few = h.few;
    placed = placed;
    predeclared = entries_kept s t e h.sound [] g.predeclared h.predeclared;
    used = All-weaker (EachOf (IsEntry s [])) (EachOf (IsEntry t [])) (λ symbols k. entries_kept s t e h.sound [] symbols k) g.used h.used;
    lasting = h.lasting;
    blocks = blocks_kept s t e h.sound [] g.blocks h.blocks;
  }

  -- further variables and routines
  pub same_known : (t : Scope) → Extends s t → t.types ≡ s.types → t.others ≡ s.others → ((number : ℕ) (one : Routine) → slice_get t.routines number ≡ Some one → IsPlaced one) → AreKnown g t
  same_known t e is others placed = record {
    has = methods_kept s t e h.sound g h.has is others;
    sound = subst (λ (types : List TypeDef). IsSound types) (sym is) h.sound;
    nested = nested_kept s t e h.sound (open_in g) h.nested;
    few = h.few;
    placed = placed;
    predeclared = entries_kept s t e h.sound [] g.predeclared h.predeclared;
    used = All-weaker (EachOf (IsEntry s [])) (EachOf (IsEntry t [])) (λ symbols k. entries_kept s t e h.sound [] symbols k) g.used h.used;
    lasting = h.lasting;
    blocks = blocks_kept s t e h.sound [] g.blocks h.blocks;
  }

  pub wider : (t : Scope) → Extends s t → Weakens (scope_over s (open_in g)) (scope_over t (open_in g))
  wider t e = record {
    defined = h.sound.defined;
    types = e.types;
    others = e.others;
    globals = e.globals;
    routines = λ number one is. (let it = e.routines number one is in (it.0, it.1, it.2.same));
    around = λ number k. k;
    levels = λ level number ty v. levels_kept s t e h.sound (open_in g) level number ty h.nested v;
    withs = refl;
  }

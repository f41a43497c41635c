-- Names as expressions are typed.
use Rattle.std.proofs.Common.{◌≡◌, inl, ℕ, Bool, true, false, cond, List, [], sym, subst}
use Rattle.tp_check_stmt.specs.type_layout.declared.definitions.TypeId.{TypeId}
use Rattle.tp_check_stmt.specs.type_layout.declared.definitions.RoutineId.{RoutineId}
use Rattle.tp_check_stmt.specs.type_layout.declared.definitions.Header.{Header}
use Rattle.tp_check_stmt.specs.type_layout.declared.definitions.TypeDef.{TypeDef}
use Rattle.tp_check_stmt.specs.type_layout.declared.texts.Place.{Place}
use Rattle.tp_check_stmt.specs.pascal_grammar.declared.lexeme.Position.{Position}
use Rattle.tp_check_stmt.specs.typed_tree.declared.expressions.Value.{Value}
use Rattle.tp_check_stmt.specs.typed_tree.declared.expressions.Value.TheVariants as value
use Rattle.tp_check_stmt.specs.typed_tree.Expressions.{Expression, Load, Var}
use Rattle.tp_check_stmt.specs.typed_tree.type_fits.Fits.{definition, IsValue}
use Rattle.rules_well_formed.specs.well_formed.Scopes.{Scope}
use Rattle.rules_well_formed.specs.well_formed.Typed.{IsTyped}
use Rattle.tp_check_stmt.specs.scopes.declared.entries.Entry.{Entry}
use Rattle.tp_check_stmt.specs.scopes.declared.entries.Entry.TheVariants as entry
use Rattle.tp_check_stmt.specs.scopes.Environment.{Environment}
use Rattle.tp_check_stmt.specs.call_rules.standard_rules.Standard.{is_special, standard}
use Rattle.tp_check_stmt.specs.call_rules.Given.{called}
use Rattle.tp_check_stmt.specs.call_rules.procedural_rules.Through.{settled}
use Rattle.tp_check_stmt.specs.tp_check_expr.declared.names.Purpose.{Purpose}
use Rattle.tp_check_stmt.specs.tp_check_expr.declared.names.Purpose.TheVariants as purpose
use Rattle.tp_check_stmt.specs.tp_check_expr.Names.{variable, as_wanted, routine_wanted, standard_wanted, named_constant, entered}
use Rattle.rules_well_formed.specs.nodes.Tables.{IsHeaderIn}
use Rattle.rules_well_formed.specs.nodes.Laws.{IsOperand}
use Rattle.rules_well_formed.proofs.nodes.Combined.{constant_value}
use Rattle.rules_well_formed.specs.calls.Laws.{IsDeclared}
use Rattle.rules_well_formed.proofs.calls.Calls.{called_typed}
use Rattle.rules_well_formed.proofs.standard.Rows.{standard_typed}
use Rattle.rules_well_formed.proofs.methods.Through.{settled_typed}
use Rattle.rules_well_formed.specs.allocations.Laws.{MayBeValue}
use Rattle.rules_well_formed.proofs.allocations.Values.{value_typed}
use Rattle.bodies_well_formed.specs.expressions.Agreeing.{IsKnown, Agrees}

module _ (g : Environment) (s : Scope) (a : Agrees g s) where
  -- what holds over the types of names holds over those of trees
  pub at : (P : List TypeDef → Type 0) → P g.types.types → P s.types
  at P h = subst P (sym a.has.types) h

  pub wanted_typed : (place : Place) (for : Purpose) (x e : Expression) → IsOperand s x → (as_wanted g.types.types place for x).holds e → IsOperand s e
  wanted_typed place purpose.Value x e ox h = settled_typed s a.sound place x e ox (at (λ (t : List TypeDef). (settled t place x).holds e) h)
  wanted_typed place for x e ox h = subst (λ (y : Expression). IsOperand s y) (sym h) ox

  call_typed : (here : Position) (routine : RoutineId) (header : Header) (e : Expression) → IsDeclared s routine header → IsHeaderIn s.types header
      → (called g.types.types here.place here.switches.r routine header []).holds e → IsOperand s e
  call_typed here routine header e declared there h =
      inl (called_typed s a.sound here.place here.switches.r routine header [] e declared there tt (at (λ (t : List TypeDef). (called t here.place here.switches.r routine header []).holds e) h))

  routine_typed : (here : Position) (for : Purpose) (routine : RoutineId) (level : ℕ) (header : Header) (far : Bool) (e : Expression) → IsDeclared s routine header → IsHeaderIn s.types header
      → MayBeValue s routine level header far → (routine_wanted g here for routine level header far).holds e → IsOperand s e
  routine_typed here (purpose.Routine ty fault) routine level header far e declared there may h = inl (value_typed g s a.has here.place fault ty routine level header far e may h)
  routine_typed here for routine level header far e declared there may h = call_typed here routine header e declared there h

  standard_by : (place : Place) (number : ℕ) (e : Expression) → (b : Bool) → cond b ⊥ ((standard g.types.types place number []).holds e) → IsOperand s e
  standard_by place number e true h = absurd h
  standard_by place number e false h = inl (standard_typed s a.sound place number [] e tt (at (λ (t : List TypeDef). (standard t place number []).holds e) h))

  function_typed : (place : Place) (for : Purpose) (number : ℕ) (e : Expression) → (standard_wanted g.types.types place for number).holds e → IsOperand s e
  function_typed place (purpose.Routine ty fault) number e h = absurd h
  function_typed place for number e h = standard_by place number e (is_special number) h

  constant_named : (ty : TypeId) (v : Value) → IsValue s.types v (definition s.types ty) → IsTyped s (named_constant s.types ty v)
  constant_named ty (value.Number n) h = constant_value s a.sound ty n h
  constant_named ty v h = h

  pub entered_typed : (here : Position) (for : Purpose) (one : Entry) (e : Expression) → IsKnown g s one → (entered g here for one).holds e → IsOperand s e
  entered_typed here for (entry.Const ty v) e known h =
      inl (subst (λ (y : Expression). IsTyped s y) (sym (at (λ (t : List TypeDef). e ≡ named_constant t ty v) h)) (constant_named ty v known))
  entered_typed here for (entry.Var unit level number ty) e known h =
      wanted_typed here.place for (Load ty (Var (variable g unit level number))) e (inl (known.0, known)) h
  entered_typed here for (entry.Ty ty) e known h = absurd h
  entered_typed here for (entry.Code routine level header far) e known h = routine_typed here for routine level header far e known.0 known.1 known.2 h
  entered_typed here for (entry.Std number) e known h = function_typed here.place for number e h

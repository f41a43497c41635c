-- What is called is there, and calls are typed.
use Rattle.std.proofs.Common.{◌≡◌, inl, ℕ, Bool, true, false, cond, List, Option, Some, None, refl, sym, subst}
use Rattle.tp_check_stmt.specs.type_layout.declared.definitions.TypeId.{TypeId}
use Rattle.tp_check_stmt.specs.type_layout.declared.definitions.TypeDef.{TypeDef}
use Rattle.tp_check_stmt.specs.type_layout.declared.texts.Place.{Place}
use Rattle.tp_check_stmt.specs.pascal_grammar.declared.lexeme.Position.{Position}
use Rattle.tp_check_stmt.specs.tp_lexer.declared.token.Feature.{Feature}
use Rattle.tp_check_stmt.specs.tp_lexer.left_out_names.Names.{feature_of}
use Rattle.tp_check_stmt.specs.typed_tree.Expressions.{Expression, Load, Var}
use Rattle.rules_well_formed.specs.well_formed.Scopes.{Scope}
use Rattle.tp_check_stmt.specs.scopes.declared.entries.Entry.{Entry}
use Rattle.tp_check_stmt.specs.scopes.declared.entries.Entry.TheVariants as entry
use Rattle.tp_check_stmt.specs.scopes.Environment.{Environment, Meaning, named, member, find, kind_of}
use Rattle.tp_check_stmt.specs.typing_rules.Judgements.{Judgement, Through}
use Rattle.tp_check_stmt.specs.typing_rules.Selectors.{selected}
use Rattle.tp_check_stmt.specs.call_rules.Casts.{cast}
use Rattle.tp_check_stmt.specs.call_rules.Given.{called}
use Rattle.tp_check_stmt.specs.call_rules.standard_rules.Standard.{standard}
use Rattle.tp_check_stmt.specs.call_rules.method_rules.Methods.{Bound, bound}
use Rattle.tp_check_stmt.specs.call_rules.method_rules.Calls.{called_on}
use Rattle.tp_check_stmt.specs.call_rules.procedural_rules.Through.{held_routine, called_through}
use Rattle.tp_check_stmt.specs.call_rules.allocation_rules.Allocations.{made}
use Rattle.tp_check_stmt.specs.syntax_tree.expression_tree.Trees.{Tree, name}
use Rattle.tp_check_stmt.specs.tp_check_expr.declared.names.Purpose.{Purpose}
use Rattle.tp_check_stmt.specs.tp_check_expr.declared.names.Purpose.TheVariants as purpose
use Rattle.tp_check_stmt.specs.tp_check_expr.Names.{variable}
use Rattle.tp_check_stmt.specs.tp_check_expr.Owners.{owner_in}
use Rattle.tp_check_stmt.specs.tp_check_expr.Calls.{is_method_of, Callable, declared, method, through, maker, entered_by, member_callable, callable_entry, callable_member, callable_meant, callable_name, constructor_at, target_for, called_with, target_called, special_of, applied_by, applied}
use Rattle.rules_well_formed.specs.nodes.Laws.{IsOperand}
use Rattle.rules_well_formed.proofs.nodes.Selected.{selected_typed}
use Rattle.rules_well_formed.specs.calls.Laws.{AreOperands}
use Rattle.rules_well_formed.proofs.calls.Casts.{cast_typed}
use Rattle.rules_well_formed.proofs.calls.Calls as routines
use Rattle.rules_well_formed.proofs.standard.Rows.{standard_typed}
use Rattle.rules_well_formed.specs.methods.Declared.{IsBound, Holds}
use Rattle.rules_well_formed.proofs.methods.Bound.{bound_typed}
use Rattle.rules_well_formed.proofs.methods.Calls as methods
use Rattle.rules_well_formed.proofs.methods.Through as held
use Rattle.rules_well_formed.specs.allocations.Laws.{IsMaker}
use Rattle.rules_well_formed.proofs.allocations.Makers.{constructor_found, made_typed}
use Rattle.bodies_well_formed.specs.expressions.Agreeing.{IsKnown, Agrees}
use Rattle.bodies_well_formed.proofs.expressions.Names.{at}
use Rattle.bodies_well_formed.proofs.expressions.Members.{owner_typed}

-- what may be called is there
abbrev pub IsCallable : Environment → Scope → Callable → Type 0
IsCallable g s (declared one) = IsKnown g s one
IsCallable g s (method one) = IsBound s one
IsCallable g s (through one) = Holds s one
IsCallable g s (maker ty one) = IsMaker s ty one

module _ (g : Environment) (s : Scope) (a : Agrees g s) where
  pub through_callable : (place : Place) (x : Expression) (one : Callable) → IsOperand s x → (entered_by g.types.types place x).holds one → IsCallable g s one
  through_callable place x one ox h =
      subst (λ (c : Callable). IsCallable g s c) (sym h.made) (held.held_typed s a.sound place x h.part ox (at g s a (λ (t : List TypeDef). (held_routine t place x).holds h.part) h.holds))

  member_by : (place here : Place) (x : Expression) (word : List ℕ) (one : Callable) → IsOperand s x → (b : Bool)
      → cond b (Through (bound g here x word).holds (λ (m : Bound) (o : Callable). o ≡ method m) one)
      (Through (selected g.types.types here x word).holds (λ (y : Expression) (o : Callable). (entered_by g.types.types place y).holds o) one)
      → IsCallable g s one
  member_by place here x word one ox true h =
      subst (λ (c : Callable). IsCallable g s c) (sym h.made) (bound_typed g s a.has a.sound here x word h.part ox h.holds)
  member_by place here x word one ox false h =
      let field = selected_typed s a.sound here word x h.part ox (at g s a (λ (t : List TypeDef). (selected t here x word).holds h.part) h.holds) in
      through_callable place h.part one (inl field) h.made

  pub member_called : (place here : Place) (x : Expression) (word : List ℕ) (one : Callable) → IsOperand s x → (member_callable g place here x word).holds one → IsCallable g s one
  member_called place here x word one ox h = member_by place here x word one ox (is_method_of g.types.types x word) h

  entry_called : (place : Place) (meaning : Entry) (one : Callable) → IsKnown g s meaning → (callable_entry g place meaning).holds one → IsCallable g s one
  entry_called place (entry.Const ty v) one known h = absurd h
  entry_called place (entry.Var unit level number ty) one known h = through_callable place (Load ty (Var (variable g unit level number))) one (inl (known.0, known)) h
  entry_called place meaning one known h = subst (λ (c : Callable). IsCallable g s c) (sym h) known

  owned_called : (place : Place) (o : Option Expression) (word : List ℕ) (one : Callable) → ((owner : Expression) → o ≡ Some owner → IsOperand s owner) → (callable_member g place o word).holds one → IsCallable g s one
  owned_called place None word one owned h = absurd h
  owned_called place (Some owner) word one owned h = member_called place place owner word one (owned owner refl) h

  meant_called : (place : Place) (word : List ℕ) (feature : Option Feature) (m : Option Meaning) → find g word ≡ m → (one : Callable) → (callable_meant g place word feature m).holds one → IsCallable g s one
  meant_called place word feature None is one h = absurd h
  meant_called place word feature (Some (named number meaning)) is one h = entry_called place meaning one (a.known word number meaning is) h
  meant_called place word feature (Some (member number m)) is one h =
      owned_called place (owner_in g number (kind_of g number)) word one (λ owner k. owner_typed g s a number (kind_of g number) refl owner k) h

  pub name_called : (place : Place) (word : List ℕ) (one : Callable) → (callable_name g place word).holds one → IsCallable g s one
  unfolding callable_name
  name_called place word one h = meant_called place word (feature_of word) (find g word) refl one h

  -- behind the type in a New
  maker_called : (ty : TypeId) (place : Place) (tree : Tree) (one : Callable) → (constructor_at g ty place tree).holds one → IsCallable g s one
  maker_called ty place (name here word) one h = subst (λ (c : Callable). IsCallable g s c) (sym h.made) (constructor_found g s a.has a.sound place ty word h.part h.holds)
  maker_called ty place tree one h = absurd h

  pub target_callable : (for : Purpose) (tree : Tree) (otherwise : Judgement Callable) (one : Callable) → ((c : Callable) → otherwise.holds c → IsCallable g s c)
      → (target_for g for tree otherwise).holds one → IsCallable g s one
  target_callable (purpose.Constructor ty place) tree otherwise one other h = maker_called ty place tree one h
  target_callable for tree otherwise one other h = other one h

  -- ---- calls

  entry_typed : (here : Position) (one : Entry) (es : List Expression) (e : Expression) → IsKnown g s one → AreOperands s es → (called_with g.types.types here one es).holds e → IsOperand s e
  entry_typed here (entry.Ty ty) es e known oes h = inl (cast_typed s a.sound here.place ty es e oes (at g s a (λ (t : List TypeDef). (cast t here.place ty es).holds e) h))
  entry_typed here (entry.Code routine level header far) es e known oes h =
      inl (routines.called_typed s a.sound here.place here.switches.r routine header es e known.0 known.1 oes (at g s a (λ (t : List TypeDef). (called t here.place here.switches.r routine header es).holds e) h))
  entry_typed here (entry.Std number) es e known oes h = inl (standard_typed s a.sound here.place number es e oes (at g s a (λ (t : List TypeDef). (standard t here.place number es).holds e) h))
  entry_typed here (entry.Const ty v) es e known oes h = absurd h
  entry_typed here (entry.Var unit level number ty) es e known oes h = absurd h

  target_typed : (here : Position) (one : Callable) (es : List Expression) (e : Expression) → IsCallable g s one → AreOperands s es → (target_called g.types.types here one es).holds e → IsOperand s e
  target_typed here (declared one) es e c oes h = entry_typed here one es e c oes h
  target_typed here (method one) es e c oes h =
      inl (methods.called_typed s a.sound here.place here.switches.r one es e c oes (at g s a (λ (t : List TypeDef). (called_on t here.place here.switches.r one es).holds e) h))
  target_typed here (through one) es e c oes h =
      inl (held.called_typed s a.sound here.place here.switches.r one es e c oes (at g s a (λ (t : List TypeDef). (called_through t here.place here.switches.r one es).holds e) h))
  target_typed here (maker ty one) es e c oes h =
      inl (made_typed s a.sound here.place here.switches.r ty one es e c oes (at g s a (λ (t : List TypeDef). (made t here.place here.switches.r ty one es).holds e) h))

  applied_at : (here : Position) (one : Callable) (values : Judgement (List Expression)) (special : ℕ → Judgement Expression) (e : Expression) → IsCallable g s one
      → ((es : List Expression) → values.holds es → AreOperands s es) → ((n : ℕ) → (special n).holds e → IsOperand s e) → (o : Option ℕ)
      → (applied_by o values special (target_called g.types.types here one)).holds e → IsOperand s e
  applied_at here one values special e c given other None h = target_typed here one h.part e c (given h.part h.holds) h.made
  applied_at here one values special e c given other (Some n) h = other n h

  pub applied_typed : (here : Position) (one : Callable) (values : Judgement (List Expression)) (special : ℕ → Judgement Expression) (e : Expression) → IsCallable g s one
      → ((es : List Expression) → values.holds es → AreOperands s es) → ((n : ℕ) → (special n).holds e → IsOperand s e)
      → (applied g.types.types here one values special).holds e → IsOperand s e
  applied_typed here one values special e c given other h = applied_at here one values special e c given other (special_of one) h

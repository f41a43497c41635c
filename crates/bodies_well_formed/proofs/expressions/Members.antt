-- Members of objects and records, and names, are typed.
use Rattle.std.proofs.Common.{◌≡◌, inl, ℕ, Bool, true, false, cond, List, [], Option, Some, None, refl, subst}
use Rattle.tp_check_stmt.specs.type_layout.declared.definitions.TypeId.{TypeId}
use Rattle.tp_check_stmt.specs.type_layout.declared.definitions.TypeDef.{TypeDef}
use Rattle.tp_check_stmt.specs.type_layout.declared.texts.Place.{Place}
use Rattle.tp_check_stmt.specs.pascal_grammar.declared.lexeme.Position.{Position}
use Rattle.tp_check_stmt.specs.tp_lexer.declared.token.Feature.{Feature}
use Rattle.tp_check_stmt.specs.tp_lexer.left_out_names.Names.{feature_of}
use Rattle.tp_check_stmt.specs.typed_tree.Expressions.{Expression, Load, Var}
use Rattle.rules_well_formed.specs.well_formed.Scopes.{Scope}
use Rattle.rules_well_formed.specs.well_formed.Typed.{IsTyped, HasPlace}
use Rattle.tp_check_stmt.specs.scopes.declared.entries.Entry.{Entry}
use Rattle.tp_check_stmt.specs.scopes.declared.entries.Entry.TheVariants as entry
use Rattle.tp_check_stmt.specs.scopes.declared.entries.BlockKind.{BlockKind}
use Rattle.tp_check_stmt.specs.scopes.declared.entries.BlockKind.TheVariants as block
use Rattle.tp_check_stmt.specs.scopes.Environment.{Environment, Meaning, named, member, find, kind_of, found_in, block_count}
use Rattle.tp_check_stmt.specs.typing_rules.Judgements.{Through}
use Rattle.tp_check_stmt.specs.typing_rules.Selectors.{selected}
use Rattle.tp_check_stmt.specs.call_rules.method_rules.Methods.{Bound, bound}
use Rattle.tp_check_stmt.specs.call_rules.method_rules.Calls.{called_on}
use Rattle.tp_check_stmt.specs.call_rules.allocation_rules.Allocations.{made}
use Rattle.tp_check_stmt.specs.tp_check_expr.declared.names.Purpose.{Purpose}
use Rattle.tp_check_stmt.specs.tp_check_expr.declared.names.Purpose.TheVariants as purpose
use Rattle.tp_check_stmt.specs.tp_check_expr.Names.{variable, as_wanted}
use Rattle.tp_check_stmt.specs.tp_check_expr.Owners.{held, Instance, self_meant, self_word, self_in, method_before, self_at, self_of, self_loaded, owner_in, inherited_on, inherited_from}
use Rattle.tp_check_stmt.specs.tp_check_expr.Calls.{is_method_of, method_wanted, chosen, opened, meant, constructor_named, name_for, name_judged}
use Rattle.rules_well_formed.specs.nodes.Laws.{IsOperand}
use Rattle.rules_well_formed.proofs.nodes.Selected.{selected_typed}
use Rattle.rules_well_formed.specs.methods.Declared.{IsBound}
use Rattle.rules_well_formed.proofs.methods.Bound.{bound_typed, inherited_typed}
use Rattle.rules_well_formed.proofs.methods.Calls.{called_typed}
use Rattle.rules_well_formed.proofs.allocations.Makers.{constructor_found, made_typed}
use Rattle.bodies_well_formed.specs.expressions.Agreeing.{IsKnown, Agrees}
use Rattle.bodies_well_formed.proofs.expressions.Names.{at, wanted_typed, entered_typed}

module _ (g : Environment) (s : Scope) (a : Agrees g s) where
  method_call : (here : Position) (one : Bound) (e : Expression) → IsBound s one → (called_on g.types.types here.place here.switches.r one []).holds e → IsOperand s e
  method_call here one e bound h =
      inl (called_typed s a.sound here.place here.switches.r one [] e bound tt (at g s a (λ (t : List TypeDef). (called_on t here.place here.switches.r one []).holds e) h))

  pub method_typed : (here : Position) (for : Purpose) (one : Bound) (e : Expression) → IsBound s one → (method_wanted g.types.types here for one).holds e → IsOperand s e
  method_typed here (purpose.Routine ty fault) one e bound h = absurd h
  method_typed here for one e bound h = method_call here one e bound h

  chosen_by : (here : Position) (for : Purpose) (x : Expression) (word : List ℕ) (e : Expression) → IsOperand s x → (b : Bool)
      → cond b (Through (bound g here.place x word).holds (λ (one : Bound) (o : Expression). (method_wanted g.types.types here for one).holds o) e)
      (Through (selected g.types.types here.place x word).holds (λ (y o : Expression). (as_wanted g.types.types here.place for y).holds o) e)
      → IsOperand s e
  chosen_by here for x word e ox true h = method_typed here for h.part e (bound_typed g s a.has a.sound here.place x word h.part ox h.holds) h.made
  chosen_by here for x word e ox false h =
      let field = selected_typed s a.sound here.place word x h.part ox (at g s a (λ (t : List TypeDef). (selected t here.place x word).holds h.part) h.holds) in
      wanted_typed g s a here.place for h.part e (inl field) h.made

  pub chosen_typed : (here : Position) (for : Purpose) (x : Expression) (word : List ℕ) (e : Expression) → IsOperand s x → (chosen g here for x word).holds e → IsOperand s e
  chosen_typed here for x word e ox h = chosen_by here for x word e ox (is_method_of g.types.types x word) h

  -- ---- what has members that are known by their names

  self_known : (o : Option Entry) → ((one : Entry) → o ≡ Some one → IsKnown g s one) → (own : Instance) → self_meant g o ≡ Some own → HasPlace s own.at own.class × IsTyped s (Load own.class own.at)
  self_known (Some (entry.Var unit level n ty)) known own e =
      let is = known (entry.Var unit level n ty) refl in
      let same : (let it : Instance = record { class = ty; at = Var (variable g unit level n) } in it) ≡ own = cc in
      subst (λ (o : Instance). HasPlace s o.at o.class × IsTyped s (Load o.class o.at)) same (is, (is.0, is))
  self_known o known own e = let bad : ⊥ = cc in absurd bad

  -- Self of a block
  self_typed : (number : ℕ) (own : Instance) → self_in g number ≡ Some own → HasPlace s own.at own.class × IsTyped s (Load own.class own.at)
  self_typed number own e = self_known (found_in g number self_word) (λ one k. a.inside number self_word one k) own e

  loaded_typed : (o : Option Instance) → ((own : Instance) → o ≡ Some own → IsTyped s (Load own.class own.at)) → (owner : Expression) → self_loaded o ≡ Some owner → IsOperand s owner
  loaded_typed None typed owner e = let bad : ⊥ = cc in absurd bad
  loaded_typed (Some own) typed owner e =
      let same : Load own.class own.at ≡ owner = cc in
      subst (λ (x : Expression). IsOperand s x) same (inl (typed own refl))

  pub owner_typed : (number : ℕ) (k : Option BlockKind) → kind_of g number ≡ k → (owner : Expression) → owner_in g number k ≡ Some owner → IsOperand s owner
  owner_typed number (Some (block.With ty)) is owner e =
      let place = a.held number ty is in
      let same : Load ty (held g number) ≡ owner = cc in
      subst (λ (x : Expression). IsOperand s x) same (inl (place.0, place))
  owner_typed number (Some (block.Routine own (Some class))) is owner e = loaded_typed (self_in g number) (λ one k. (self_typed number one k).1) owner e
  owner_typed number k is owner e = let bad : ⊥ = cc in absurd bad

  opened_typed : (here : Position) (for : Purpose) (o : Option Expression) (word : List ℕ) (e : Expression) → ((owner : Expression) → o ≡ Some owner → IsOperand s owner)
      → (opened g here for o word).holds e → IsOperand s e
  opened_typed here for None word e owned h = absurd h
  opened_typed here for (Some owner) word e owned h = chosen_typed here for owner word e (owned owner refl) h

  meant_typed : (here : Position) (for : Purpose) (word : List ℕ) (feature : Option Feature) (m : Option Meaning) → find g word ≡ m → (e : Expression)
      → (meant g here for word feature m).holds e → IsOperand s e
  meant_typed here for word feature None is e h = absurd h
  meant_typed here for word feature (Some (named number one)) is e h = entered_typed g s a here for one e (a.known word number one is) h
  meant_typed here for word feature (Some (member number one)) is e h =
      opened_typed here for (owner_in g number (kind_of g number)) word e (λ owner k. owner_typed number (kind_of g number) refl owner k) h

  new_typed : (here : Position) (ty : TypeId) (place : Place) (word : List ℕ) (e : Expression) → (constructor_named g here ty place word).holds e → IsOperand s e
  unfolding constructor_named
  new_typed here ty place word e h =
      let maker = constructor_found g s a.has a.sound place ty word h.part h.holds in
      inl (made_typed s a.sound here.place here.switches.r ty h.part [] e maker tt (at g s a (λ (t : List TypeDef). (made t here.place here.switches.r ty h.part []).holds e) h.made))

  name_by : (here : Position) (for : Purpose) (word : List ℕ) (e : Expression) → (name_for g here for word).holds e → IsOperand s e
  name_by here (purpose.Constructor ty place) word e h = new_typed here ty place word e h
  name_by here for word e h = meant_typed here for word (feature_of word) (find g word) refl e h

  pub name_typed : (here : Position) (for : Purpose) (word : List ℕ) (e : Expression) → (name_judged g here for word).holds e → IsOperand s e
  unfolding name_judged
  name_typed here for word e h = name_by here for word e h

  -- ---- methods of ancestors

  method_self : (o : Option ℕ) (own : Instance) → self_at g o ≡ Some own → HasPlace s own.at own.class
  method_self None own e = let bad : ⊥ = cc in absurd bad
  method_self (Some number) own e = (self_typed number own e).0

  ancestor_on : (place : Place) (one : _) (word : List ℕ) (o : Option Instance) → ((own : Instance) → o ≡ Some own → HasPlace s own.at own.class) → (b : Bound)
      → (inherited_on g place one word o).holds b → IsBound s b
  ancestor_on place one word None there b h = absurd h
  ancestor_on place one word (Some own) there b h = inherited_typed g s a.has a.sound one.place place own.class own.at one.ty word b (there own refl) h

  pub ancestor_bound : (place : Place) (one : _) (word : List ℕ) (b : Bound) → (inherited_from g place one word).holds b → IsBound s b
  ancestor_bound place one word b h = ancestor_on place one word (self_of g) (λ own k. method_self (method_before g (block_count g)) own k) b h

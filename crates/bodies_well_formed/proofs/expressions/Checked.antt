-- Each expression that is typed by the rules has a typed node.
use Rattle.std.proofs.Common.{◌≡◌, inl, inr, ℕ, ◌<◌, not, Bool, true, false, cond, List, [], ◌∷◌, Option, Some, None, sym, subst, arith}
use Rattle.std.proofs.Math.IntN.{pos}
use Rattle.std.specs.Prelude.{◌≤ℤ◌, bit_xor}
use Rattle.std.proofs.lemmas.Int.{ints}
use Rattle.std.proofs.lemmas.List.Elements.{All-head}
use Rattle.tp_check_stmt.specs.type_layout.declared.definitions.Host.TheVariants as host
use Rattle.tp_check_stmt.specs.type_layout.declared.definitions.TypeId.{TypeId}
use Rattle.tp_check_stmt.specs.type_layout.declared.definitions.TypeDef.{TypeDef}
use Rattle.tp_check_stmt.specs.type_layout.declared.definitions.Param.{Param}
use Rattle.tp_check_stmt.specs.type_layout.declared.texts.Place.{Place}
use Rattle.tp_check_stmt.specs.pascal_grammar.declared.lexeme.Position.{Position}
use Rattle.tp_check_stmt.specs.syntax_tree.declared.expression.PlacedSign.{PlacedSign}
use Rattle.tp_check_stmt.specs.typed_tree.declared.expressions.Value.TheVariants as value
use Rattle.tp_check_stmt.specs.typed_tree.Expressions.{Expression, Const}
use Rattle.tp_check_stmt.specs.typed_tree.type_fits.Fits.{definition, IsValue}
use Rattle.rules_well_formed.specs.well_formed.Scopes.{Scope}
use Rattle.rules_well_formed.specs.well_formed.Typed.{IsTyped}
use Rattle.tp_check_stmt.specs.scopes.Environment.{Environment}
use Rattle.tp_check_stmt.specs.typing_rules.Judgements.{Judgement, makes, part}
use Rattle.tp_check_stmt.specs.typing_rules.Sorts.{char, string}
use Rattle.tp_check_stmt.specs.typing_rules.Operators as operator
use Rattle.tp_check_stmt.specs.typing_rules.Selectors as selector
use Rattle.tp_check_stmt.specs.call_rules.set_rules.Sets.{Item, constructed}
use Rattle.tp_check_stmt.specs.call_rules.standard_rules.Sizes.{is_size, sized, variable_sized}
use Rattle.tp_check_stmt.specs.call_rules.allocation_rules.Allocations.{blank, newly_made}
use Rattle.tp_check_stmt.specs.call_rules.method_rules.Methods.{Bound}
use Rattle.tp_check_stmt.specs.syntax_tree.expression_tree.Trees as tree
use Rattle.tp_check_stmt.specs.syntax_tree.expression_tree.Trees.{Tree, Listed, Elements, single, span, no_elements, and_element, Operand, Operands, plain, wide, no_operands, and_operand, number, text, control, set, call, signed, negated, combined, name, field, index, followed, of_sign}
use Rattle.tp_check_stmt.specs.tp_check_expr.declared.names.Purpose.{Purpose}
use Rattle.tp_check_stmt.specs.tp_check_expr.declared.names.Purpose.TheVariants as purpose
use Rattle.tp_check_stmt.specs.tp_check_expr.Names.{purpose_of}
use Rattle.tp_check_stmt.specs.tp_check_expr.Owners.{type_in, by_type, inherited_from}
use Rattle.tp_check_stmt.specs.tp_check_expr.Calls.{method_wanted, chosen, Callable, method, params_of, member_callable}
use Rattle.tp_check_stmt.specs.tp_check_expr.Typed.{text_constant, control_constant, marked, first_param, rest_params, size_by, making, misplaced, miscalled, judged_as, callable, items_judged, item_judged, all_given, one_given, special_given}
use Rattle.rules_well_formed.specs.nodes.Laws.{IsOperand}
use Rattle.rules_well_formed.proofs.nodes.Ordinals.{holding, value_held, stored_char, text_type}
use Rattle.rules_well_formed.proofs.nodes.Combined.{number_value, combined_typed, signed_typed, negated_typed}
use Rattle.rules_well_formed.proofs.nodes.Followed.{followed_typed}
use Rattle.rules_well_formed.proofs.nodes.Indexed.{indexed_typed}
use Rattle.rules_well_formed.specs.calls.Laws.{AreOperands}
use Rattle.rules_well_formed.specs.sets.Laws.{ListsOperands, AllListOperands}
use Rattle.rules_well_formed.proofs.sets.Constructed.{constructed_typed}
use Rattle.rules_well_formed.proofs.standard.Sizes.{sized_typed, variable_typed}
use Rattle.rules_well_formed.proofs.allocations.Makers.{blank_typed, newly_typed}
use Rattle.bodies_well_formed.specs.expressions.Agreeing.{Agrees}
use Rattle.bodies_well_formed.specs.expressions.Literals.{IsText, IsLetter, AreLiterals, AreInListed, AreInElements, AreInOperand, AreInOperands}
use Rattle.bodies_well_formed.proofs.expressions.Names.{at, wanted_typed}
use Rattle.bodies_well_formed.proofs.expressions.Members.{method_typed, chosen_typed, name_typed, ancestor_bound}
use Rattle.bodies_well_formed.proofs.expressions.Called.{IsCallable, through_callable, member_called, name_called, target_callable, applied_typed}

module _ (g : Environment) (s : Scope) (a : Agrees g s) where
  -- ---- literals

  character : (byte : ℕ) → byte < 256 → IsTyped s (Const char (value.Number (pos byte)))
  character byte h =
      let least : pos 0 ≤ℤ pos byte = omega (arith, ints) in
      let most : pos byte ≤ℤ pos 255 = omega (arith, ints, h) in
      value_held s.types (definition s.types char) host.Char (pos byte) (stored_char s.types a.sound) (holding host.Char (pos byte) least most)

  string_typed : (bytes : List ℕ) → IsText bytes → IsTyped s (Const string (value.Chars bytes))
  string_typed bytes h = subst (λ (o : Option TypeDef). IsValue s.types (value.Chars bytes) o) (sym (text_type s.types a.sound)) (h.short, h.each)

  text_typed : (bytes : List ℕ) → IsText bytes → IsTyped s (text_constant bytes)
  text_typed [] h = string_typed [] h
  text_typed (byte ∷ []) h = character byte (All-head (λ (b : ℕ). b < 256) byte [] h.each)
  text_typed (byte ∷ (other ∷ bytes)) h = string_typed (byte ∷ (other ∷ bytes)) h

  control_typed : (letter : List ℕ) → IsLetter letter → IsTyped s (control_constant letter)
  control_typed [] h = string_typed [] h
  control_typed (letter ∷ []) h = character (bit_xor letter 64) h
  control_typed (letter ∷ (other ∷ rest)) h = string_typed (letter ∷ (other ∷ rest)) h

  marked_typed : (mark : Option PlacedSign) (x e : Expression) → IsOperand s x → (marked g.types.types mark x).holds e → IsOperand s e
  marked_typed None x e ox h = subst (λ (y : Expression). IsOperand s y) (sym h) ox
  marked_typed (Some mark) x e ox h =
      inl (signed_typed s a.sound mark.position.place (of_sign mark.sign) x e ox (at g s a (λ (t : List TypeDef). (operator.signed t mark.position.place (of_sign mark.sign) x).holds e) h))

  newly : (place : Place) (x e : Expression) → IsOperand s x → (newly_made place x).holds e → IsOperand s e
  newly place x e (inl typed) h = inl (newly_typed s a.sound place x e typed h)
  newly place x e (inr none) h = absurd (subst (λ (y : Expression). (newly_made place y).holds e) none h)

  size_at : (place : Place) (o : Option _) (variable : Judgement Expression) (e : Expression) → ((x : Expression) → variable.holds x → IsOperand s x)
      → (size_by g place o variable).holds e → IsOperand s e
  size_at place None variable e each h =
      inl (variable_typed s a.sound place h.part e (each h.part h.holds) (at g s a (λ (t : List TypeDef). (variable_sized t place h.part).holds e) h.made))
  size_at place (Some one) variable e each h =
      inl (subst (λ (y : Expression). IsTyped s y) (sym (at g s a (λ (t : List TypeDef). e ≡ sized t one.ty) h)) (sized_typed s a.sound one.ty))

  -- ---- what is by the name of a type, or otherwise

  named_or : {C : Type 0} (o : Option _) (of_type : _ → Judgement C) (otherwise : Judgement C) (c : C) (P : C → Type 0)
      → ((one : _) → (of_type one).holds c → P c) → (otherwise.holds c → P c) → (by_type o of_type otherwise).holds c → P c
  named_or None of_type otherwise c P f k h = k h
  named_or (Some one) of_type otherwise c P f k h = f one h

  -- SizeOf, and New of a type alone
  size_or : (here : Position) (x : Tree) (e : Expression) → ((y : Expression) → (judged_as g purpose.Variable x).holds y → IsOperand s y) → (b : Bool)
      → cond b ((size_by g here.place (type_in g x) (judged_as g purpose.Variable x)).holds e)
      ((by_type (type_in g x) (λ t. blank g.types.types here.place t.ty) (misplaced here.place (judged_as g purpose.Value x))).holds e)
      → IsOperand s e
  size_or here x e rec true h = size_at here.place (type_in g x) (judged_as g purpose.Variable x) e rec h
  size_or here x e rec false h =
      named_or (type_in g x) (λ t. blank g.types.types here.place t.ty) (misplaced here.place (judged_as g purpose.Value x)) e (λ (y : Expression). IsOperand s y)
      (λ t k. inl (blank_typed s a.sound here.place t.ty e (at g s a (λ (u : List TypeDef). (blank u here.place t.ty).holds e) k))) (λ k. absurd k.made) h

  -- New with a constructor
  new_or : (here : Position) (values : Judgement (List Expression)) (x y : Tree) (e : Expression) → ((ty : TypeId) (z : Expression) → (judged_as g (purpose.Constructor ty here.place) y).holds z → IsOperand s z) → (b : Bool)
      → cond b ((miscalled here.place values).holds e)
      ((by_type (type_in g x) (λ t. making here.place (judged_as g (purpose.Constructor t.ty here.place) y)) (misplaced here.place (judged_as g purpose.Value x))).holds e)
      → IsOperand s e
  new_or here values x y e rec true h = absurd h.made
  new_or here values x y e rec false h =
      named_or (type_in g x) (λ t. making here.place (judged_as g (purpose.Constructor t.ty here.place) y)) (misplaced here.place (judged_as g purpose.Value x)) e (λ (z : Expression). IsOperand s z)
      (λ t k. newly here.place k.part e (rec t.ty k.part k.holds) k.made) (λ k. absurd k.made) h

  mutual
    pub judged_typed : (for : Purpose) (t : Tree) (e : Expression) → AreLiterals t → (judged_as g for t).holds e → IsOperand s e
    judged_typed for (number place n) e l h = inl (subst (λ (y : Expression). IsTyped s y) (sym h) (number_value s a.sound n l))
    judged_typed for (text place bytes) e l h = inl (subst (λ (y : Expression). IsTyped s y) (sym h) (text_typed bytes l))
    judged_typed for (control place letter) e l h = inl (subst (λ (y : Expression). IsTyped s y) (sym h) (control_typed letter l))
    judged_typed for (tree.nil place) e l h = inr h
    judged_typed for (set here listed) e l h =
        inl (constructed_typed s a.sound here.place here.switches.r h.part e (items_typed listed h.part l h.holds) (at g s a (λ (t : List TypeDef). (constructed t here.place here.switches.r h.part).holds e) h.made))
    judged_typed for (call here callee given) e l h =
        let one = target_callable g s a for callee (callable g here.place callee) h.part (λ c k. callable_typed here.place callee c l.0 k) h.holds in
        applied_typed g s a here h.part (all_given g here (params_of h.part) given) (λ n. special_given g here n (all_given g here [] given) given) e one
        (λ es k. given_typed here (params_of h.part) given es l.1 k) (λ n k. special_typed here n given given e l.1 k) h.made
    judged_typed for (signed mark x) e l h = marked_typed mark h.part e (judged_typed purpose.Value x h.part l h.holds) h.made
    judged_typed for (negated place x) e l h =
        inl (negated_typed s a.sound place h.part e (judged_typed purpose.Value x h.part l h.holds) (at g s a (λ (t : List TypeDef). (operator.negated t place h.part).holds e) h.made))
    judged_typed for (combined here op x y) e l h =
        inl (combined_typed s a.sound here.place op (not here.switches.b) h.left h.right e (judged_typed purpose.Value x h.left l.0 h.left_holds) (judged_typed purpose.Value y h.right l.1 h.right_holds)
        (at g s a (λ (t : List TypeDef). (operator.combined t here.place op (not here.switches.b) h.left h.right).holds e) h.made))
    judged_typed for (name here word) e l h = name_typed g s a here for word e h
    judged_typed for (field here x word) e l h =
        named_or (type_in g x) (λ one. part (inherited_from g here.place one word) (λ (b : Bound). method_wanted g.types.types here for b))
        (part (judged_as g purpose.Value x) (λ (y : Expression). chosen g here for y word)) e (λ (y : Expression). IsOperand s y)
        (λ one k. method_typed g s a here for k.part e (ancestor_bound g s a here.place one word k.part k.holds) k.made)
        (λ k. chosen_typed g s a here for k.part word e (judged_typed purpose.Value x k.part l k.holds) k.made)
        h
    judged_typed for (index here x i) e l h =
        let both = h.holds in
        let typed = indexed_typed s a.sound here.place here.switches.r both.right (judged_typed purpose.Value i both.right l.1 both.right_holds) both.left h.part (judged_typed purpose.Value x both.left l.0 both.left_holds)
        (at g s a (λ (t : List TypeDef). (selector.indexed t here.place here.switches.r both.left both.right).holds h.part) both.made) in
        wanted_typed g s a here.place for h.part e (inl typed) h.made
    judged_typed for (followed place x) e l h =
        let inner = h.holds in
        let typed = followed_typed s a.sound place inner.part h.part (judged_typed purpose.Value x inner.part l inner.holds)
        (at g s a (λ (t : List TypeDef). (selector.followed t place inner.part).holds h.part) inner.made) in
        wanted_typed g s a place for h.part e (inl typed) h.made

    pub callable_typed : (place : Place) (t : Tree) (one : Callable) → AreLiterals t → (callable g place t).holds one → IsCallable g s one
    callable_typed place (name here word) one l h = name_called g s a here.place word one h
    callable_typed place (field here x word) one l h =
        named_or (type_in g x) (λ ty. part (inherited_from g here.place ty word) (λ (b : Bound). makes (method b)))
        (part (judged_as g purpose.Value x) (λ (y : Expression). member_callable g place here.place y word)) one (λ (c : Callable). IsCallable g s c)
        (λ ty k. subst (λ (c : Callable). IsCallable g s c) (sym k.made) (ancestor_bound g s a here.place ty word k.part k.holds))
        (λ k. member_called g s a place here.place k.part word one (judged_typed purpose.Value x k.part l k.holds) k.made)
        h
    callable_typed place (index here x i) one l h =
        let both = h.holds in
        let typed = indexed_typed s a.sound here.place here.switches.r both.right (judged_typed purpose.Value i both.right l.1 both.right_holds) both.left h.part (judged_typed purpose.Value x both.left l.0 both.left_holds)
        (at g s a (λ (t : List TypeDef). (selector.indexed t here.place here.switches.r both.left both.right).holds h.part) both.made) in
        through_callable g s a place h.part one (inl typed) h.made
    callable_typed place (followed here x) one l h =
        let inner = h.holds in
        let typed = followed_typed s a.sound here inner.part h.part (judged_typed purpose.Value x inner.part l inner.holds)
        (at g s a (λ (t : List TypeDef). (selector.followed t here inner.part).holds h.part) inner.made) in
        through_callable g s a place h.part one (inl typed) h.made
    callable_typed place t one l h = absurd h

    items_typed : (listed : Elements) (items : List Item) → AreInElements listed → (items_judged g listed).holds items → AllListOperands s items
    items_typed no_elements items l h = subst (λ (x : List Item). AllListOperands s x) (sym h) tt
    items_typed (and_element one rest) items l h =
        subst (λ (x : List Item). AllListOperands s x) (sym h.made) (item_typed one h.left l.0 h.left_holds, items_typed rest h.right l.1 h.right_holds)

    item_typed : (listed : Listed) (item : Item) → AreInListed listed → (item_judged g listed).holds item → ListsOperands s item
    item_typed (single x) item l h = subst (λ (y : Item). ListsOperands s y) (sym h.made) (judged_typed purpose.Value x h.part l h.holds)
    item_typed (span x y) item l h =
        subst (λ (z : Item). ListsOperands s z) (sym h.made) (judged_typed purpose.Value x h.left l.0 h.left_holds, judged_typed purpose.Value y h.right l.1 h.right_holds)

    pub given_typed : (here : Position) (params : List Param) (given : Operands) (es : List Expression) → AreInOperands given → (all_given g here params given).holds es → AreOperands s es
    given_typed here params no_operands es l h = subst (λ (x : List Expression). AreOperands s x) (sym h) tt
    given_typed here params (and_operand one rest) es l h =
        subst (λ (x : List Expression). AreOperands s x) (sym h.made)
        (one_typed here (first_param params) one h.left l.0 h.left_holds, given_typed here (rest_params params) rest h.right l.1 h.right_holds)

    one_typed : (here : Position) (param : Option Param) (one : Operand) (e : Expression) → AreInOperand one → (one_given g here param one).holds e → IsOperand s e
    one_typed here param (plain x) e l h = judged_typed (purpose_of g.types.types here.place param) x e l h
    one_typed here param (wide x width) e l h = absurd h.made

    special_typed : (here : Position) (n : ℕ) (whole given : Operands) (e : Expression) → AreInOperands given → (special_given g here n (all_given g here [] whole) given).holds e → IsOperand s e
    special_typed here n whole (and_operand (plain x) no_operands) e l h = size_or here x e (λ y k. judged_typed purpose.Variable x y l.0 k) (is_size n) h
    special_typed here n whole (and_operand (plain x) (and_operand (plain y) no_operands)) e l h = new_or here (all_given g here [] whole) x y e (λ ty z k. judged_typed (purpose.Constructor ty here.place) y z l.1.0 k) (is_size n) h
    special_typed here n whole given e l h = absurd h.made

-- Expressions of which a statement asks something, and what is written and read, are as trees have them.
use Rattle.std.proofs.Common.{◌≡◌, inl, inr, Bool, All, List, Option, Some, None, refl, sym, subst}
use Rattle.std.proofs.lemmas.List.Elements.{All-nil, All-cons}
use Rattle.tp_check_stmt.specs.type_layout.declared.definitions.TypeDef.{TypeDef}
use Rattle.tp_check_stmt.specs.type_layout.declared.definitions.TypeDef.TheVariants as type
use Rattle.tp_check_stmt.specs.type_layout.declared.texts.Place.{Place}
use Rattle.tp_check_stmt.specs.pascal_grammar.declared.lexeme.Position.{Position}
use Rattle.tp_check_stmt.specs.syntax_tree.expression_tree.Trees.{Tree, Operand, Operands, plain, wide, no_operands, and_operand}
use Rattle.tp_check_stmt.specs.syntax_tree.statement_tree.Places.{place_of}
use Rattle.tp_check_stmt.specs.typed_tree.Expressions.{Expression, Load}
use Rattle.tp_check_stmt.specs.typed_tree.Statements.{Written, Taken}
use Rattle.tp_check_stmt.specs.typed_tree.type_fits.Fits as fits
use Rattle.tp_check_stmt.specs.typed_tree.type_fits.Fits.{definition, stored_as, family_of, IsSome}
use Rattle.rules_well_formed.specs.well_formed.Scopes.{Scope, HasType}
use Rattle.rules_well_formed.specs.well_formed.Typed.{IsTyped, HasPlace}
use Rattle.tp_check_stmt.specs.typed_tree.type_fits.Standard.{sort_of}
use Rattle.rules_well_formed.specs.well_formed.WellFormed.{IsCondition, IsCount, IsWritten, IsTaken}
use Rattle.tp_check_stmt.specs.scopes.Environment.{Environment}
use Rattle.tp_check_stmt.specs.typing_rules.declared.faults.Rule.{Rule}
use Rattle.tp_check_stmt.specs.typing_rules.declared.faults.Rule.TheVariants as rules
use Rattle.tp_check_stmt.specs.typing_rules.declared.sorts.Sort.{Sort}
use Rattle.tp_check_stmt.specs.typing_rules.declared.sorts.Sort.TheVariants as sort
use Rattle.tp_check_stmt.specs.typing_rules.Sorts as sorts
use Rattle.tp_check_stmt.specs.typing_rules.Plans as plans
use Rattle.tp_check_stmt.specs.call_rules.Casts as casts
use Rattle.tp_check_stmt.specs.tp_check_expr.declared.names.Purpose.TheVariants as purpose
use Rattle.tp_check_stmt.specs.tp_check_expr.Typed.{judged}
use Rattle.tp_check_stmt.specs.Places.{Spot, spot_of}
use Rattle.tp_check_stmt.specs.Lists.{each}
use Rattle.tp_check_stmt.specs.Asked as asked
use Rattle.tp_check_stmt.specs.Asked.{such, condition, selector, written_value, width}
use Rattle.tp_check_stmt.specs.Arguments.{sized}
use Rattle.tp_check_stmt.specs.Standard.{item, taken_from, taken_one}
use Rattle.rules_well_formed.specs.nodes.Laws.{IsOperand}
use Rattle.rules_well_formed.proofs.nodes.Sorted.{Shows, shows, shows_type}
use Rattle.rules_well_formed.proofs.nodes.Combined.{IsNone, not_nil}
use Rattle.rules_well_formed.proofs.nodes.Indexed.{loaded_from}
use Rattle.rules_well_formed.proofs.standard.Arguments.{integer_given, ordinal_given}
use Rattle.rules_well_formed.specs.procedures.Laws.{HasOperands}
use Rattle.bodies_well_formed.specs.expressions.Agreeing.{Agrees}
use Rattle.bodies_well_formed.specs.expressions.Literals.{AreLiterals, AreInOperand, AreInOperands}
use Rattle.bodies_well_formed.proofs.expressions.Names.{at}
use Rattle.bodies_well_formed.proofs.expressions.Checked.{judged_typed}

-- ---- places

-- a place of a type
abbrev pub IsSpot : Scope → Spot → Type 0
IsSpot s t = HasType s t.ty × HasPlace s t.at t.ty

-- what an expression loads from is one
pub spot_known : (s : Scope) (e : Expression) (t : Spot) → IsOperand s e → spot_of e ≡ Some t → IsSpot s t
spot_known s (Load ty at) t oe is =
    let same : (let it : Spot = record { ty = ty; at = at } in it) ≡ t = cc in
    subst (λ (one : Spot). IsSpot s one) same (loaded_from s ty at oe)
spot_known s e t oe is = let bad : ⊥ = cc in absurd bad

-- ---- sorts

boolean_some : (x : Sort) → plans.IsBoolean x → IsNone x
boolean_some sort.Boolean h = tt
boolean_some x h = absurd h

boolean_shown : (types : List TypeDef) (x : Sort) (one : Option TypeDef) → plans.IsBoolean x → Shows types x one → fits.IsBoolean one
boolean_shown types sort.Boolean one k h = h
boolean_shown types x one k h = absurd k

writable_some : (x : Sort) → asked.IsWritable x → IsNone x
writable_some (sort.Integer r) h = tt
writable_some sort.Boolean h = tt
writable_some sort.Char h = tt
writable_some sort.Text h = tt
writable_some x h = absurd h

writable_shown : (types : List TypeDef) (x : Sort) (one : Option TypeDef) → asked.IsWritable x → Shows types x one → fits.IsWritable one
writable_shown types (sort.Integer r) one k h = inl (inl h.0)
writable_shown types sort.Boolean one k h = inr h
writable_shown types sort.Char one k h = inl (inr (inl h))
writable_shown types sort.Text one k h = inl (inr (inr h))
writable_shown types x one k h = absurd k

readable_shown : (types : List TypeDef) (x : Sort) (one : Option TypeDef) → asked.IsReadable x → Shows types x one → fits.IsReadable one
readable_shown types (sort.Integer r) one k h = inl h.0
readable_shown types sort.Char one k h = inr (inl h)
readable_shown types sort.Text one k h = inr (inr h)
readable_shown types x one k h = absurd k

family_some : (one : Option TypeDef) → IsSome (stored_as one) → IsSome (family_of one)
family_some (Some (type.Ordinal host low high)) h = tt
family_some one h = absurd h

module _ (s : Scope) (e : Expression) (oe : IsOperand s e) where
  condition_given : plans.IsBoolean (sorts.sort_of s.types e) → IsCondition s e
  condition_given k =
      let typed = not_nil s e (boolean_some (sorts.sort_of s.types e) k) oe in
      (typed, boolean_shown s.types (sorts.sort_of s.types e) (sort_of s.types e) k (shows s e typed))

  written_given : asked.IsWritable (sorts.sort_of s.types e) → IsTyped s e × fits.IsWritable (sort_of s.types e)
  written_given k =
      let typed = not_nil s e (writable_some (sorts.sort_of s.types e) k) oe in
      (typed, writable_shown s.types (sorts.sort_of s.types e) (sort_of s.types e) k (shows s e typed))

  selector_given : casts.IsOrdinal (sorts.sort_of s.types e) → IsTyped s e × IsSome (family_of (sort_of s.types e))
  selector_given k =
      let it = ordinal_given s e oe k in
      (it.0, family_some (sort_of s.types e) it.1)

-- ---- expressions that are asked

module _ (g : Environment) (s : Scope) (a : Agrees g s) where
  pub value_typed : (tree : Tree) (e : Expression) → AreLiterals tree → (judged g tree).holds e → IsOperand s e
  value_typed tree e l h = judged_typed g s a purpose.Value tree e l h

  such_typed : (tree : Tree) (one : Rule) (test : Sort → Bool) (Asked : Sort → Type 0) (P : Expression → Type 0)
      → ((e : Expression) → IsOperand s e → Asked (sorts.sort_of s.types e) → P e) → (e : Expression) → AreLiterals tree → (such g tree one test Asked).holds e → P e
  such_typed tree one test Asked P given e l h =
      let k = at g s a (λ (t : List TypeDef). Asked (sorts.sort_of t h.part)) h.made.asked in
      subst P (sym h.made.made) (given h.part (value_typed tree h.part l h.holds) k)

  pub condition_typed : (tree : Tree) (e : Expression) → AreLiterals tree → (condition g tree).holds e → IsCondition s e
  condition_typed tree e l h = such_typed tree rules.Conditional plans.is_boolean plans.IsBoolean (λ (x : Expression). IsCondition s x) (condition_given s) e l h

  pub selector_typed : (tree : Tree) (e : Expression) → AreLiterals tree → (selector g tree).holds e → IsTyped s e × IsSome (family_of (sort_of s.types e))
  selector_typed tree e l h =
      such_typed tree rules.Labelled casts.is_ordinal casts.IsOrdinal (λ (x : Expression). IsTyped s x × IsSome (family_of (sort_of s.types x))) (selector_given s) e l h

  written_typed : (tree : Tree) (e : Expression) → AreLiterals tree → (written_value g tree).holds e → IsTyped s e × fits.IsWritable (sort_of s.types e)
  written_typed tree e l h =
      such_typed tree rules.Written asked.is_writable asked.IsWritable (λ (x : Expression). IsTyped s x × fits.IsWritable (sort_of s.types x)) (written_given s) e l h

  width_typed : (tree : Tree) (e : Expression) → AreLiterals tree → (width g tree).holds e → IsCount s e
  width_typed tree e l h = such_typed tree rules.Written plans.is_integer plans.IsInteger (λ (x : Expression). IsCount s x) (integer_given s) e l h

  -- ---- what is written

  item_typed : (one : Operand) (x : Written) → AreInOperand one → (item g one).holds x → IsWritten s x
  item_typed (plain one) x l h =
      let v = written_typed one h.part l h.holds in
      subst (λ (y : Written). IsWritten s y) (sym h.made) (record { value = v.0; sort = v.1; width = tt })
  item_typed (wide one by) x l h =
      let v = written_typed one h.left l.0 h.left_holds in
      subst (λ (y : Written). IsWritten s y) (sym h.made) (record { value = v.0; sort = v.1; width = width_typed by h.right l.1 h.right_holds })

  pub items_typed : (all : Operands) (items : List Written) → AreInOperands all → (each (item g) all).holds items → All (IsWritten s) items
  items_typed no_operands items l h = subst (λ (xs : List Written). All (IsWritten s) xs) (sym h) (All-nil (IsWritten s))
  items_typed (and_operand one rest) items l h =
      subst (λ (xs : List Written). All (IsWritten s) xs) (sym h.made)
      (All-cons (IsWritten s) h.left h.right (item_typed one h.left l.0 h.left_holds) (items_typed rest h.right l.1 h.right_holds))

  -- ---- what is read

  taken_at : (place : Place) (checked : Bool) (e : Expression) (x : Taken) → IsOperand s e → (o : Option Spot) → spot_of e ≡ o → (taken_from g.types.types place checked o).holds x → IsTaken s x
  taken_at place checked e x oe None is h = absurd h
  taken_at place checked e x oe (Some from) is h =
      let there = spot_known s e from oe is in
      let k = at g s a (λ (t : List TypeDef). asked.IsReadable (sorts.sort_of_type t from.ty)) h.asked in
      let read = readable_shown s.types (sorts.sort_of_type s.types from.ty) (definition s.types from.ty) k (shows_type s.types from.ty) in
      subst (λ (y : Taken). IsTaken s y) (sym h.made) (record { place = there.1; sort = read })

  taken_typed : (here : Position) (one : Operand) (x : Taken) → AreInOperand one → (taken_one g here one).holds x → IsTaken s x
  taken_typed here (plain one) x l h = taken_at (place_of one) here.switches.r h.part x (value_typed one h.part l h.holds) (spot_of h.part) refl h.made
  taken_typed here (wide one by) x l h = absurd h.made

  pub all_taken : (here : Position) (all : Operands) (items : List Taken) → AreInOperands all → (each (taken_one g here) all).holds items → All (IsTaken s) items
  all_taken here no_operands items l h = subst (λ (xs : List Taken). All (IsTaken s) xs) (sym h) (All-nil (IsTaken s))
  all_taken here (and_operand one rest) items l h =
      subst (λ (xs : List Taken). All (IsTaken s) xs) (sym h.made)
      (All-cons (IsTaken s) h.left h.right (taken_typed here one h.left l.0 h.left_holds) (all_taken here rest h.right l.1 h.right_holds))

  -- ---- an argument with its width

  pub sized_typed : (one : Operand) (x : Written) → AreInOperand one → (sized g one).holds x → HasOperands s x
  sized_typed (plain one) x l h =
      subst (λ (y : Written). HasOperands s y) (sym h.made) (record { value = value_typed one h.part l h.holds; width = tt })
  sized_typed (wide one by) x l h =
      subst (λ (y : Written). HasOperands s y) (sym h.made)
      (record { value = value_typed one h.left l.0 h.left_holds; width = value_typed by h.right l.1 h.right_holds })

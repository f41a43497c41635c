-- Expressions are judged lawfully.
use Rattle.std.proofs.Common.{ℕ, Bool, not, List, [], Option, Some, None}
use Rattle.type_layout.specs.declared.definitions.TypeId.{TypeId}
use Rattle.type_layout.specs.declared.definitions.TypeDef.{TypeDef}
use Rattle.type_layout.specs.declared.definitions.RoutineId.{RoutineId}
use Rattle.type_layout.specs.declared.definitions.Header.{Header}
use Rattle.type_layout.specs.declared.definitions.Param.{Param}
use Rattle.type_layout.specs.declared.texts.Place.{Place}
use Rattle.pascal_grammar.specs.declared.lexeme.Position.{Position}
use Rattle.syntax_tree.specs.declared.expression.PlacedSign.{PlacedSign}
use Rattle.typed_tree.specs.Expressions.{Expression, Load, Var}
use Rattle.scopes.specs.declared.entries.Entry.{Entry}
use Rattle.scopes.specs.declared.entries.Entry.TheVariants as entry
use Rattle.scopes.specs.Environment.{Environment, Meaning, named, member, find, kind_of}
use Rattle.tp_lexer.specs.declared.token.Feature.{Feature}
use Rattle.tp_lexer.specs.left_out_names.Names.{feature_of}
use Rattle.typing_rules.specs.declared.faults.Rule.TheVariants as rules
use Rattle.typing_rules.specs.Faults.{broken}
use Rattle.typing_rules.specs.Judgements.{Judgement, makes, refuses, part, parts}
use Rattle.typing_rules.specs.Selectors.{selected, indexed, followed}
use Rattle.typing_rules.specs.Laws.{Lawful}
use Rattle.typing_rules.proofs.JudgementLaws.{lawful_makes, lawful_refuses, lawful_either, lawful_part, lawful_parts}
use Rattle.typing_rules.proofs.OperatorLaws.{lawful_combined, lawful_signed, lawful_negated}
use Rattle.typing_rules.proofs.SelectorLaws.{lawful_selected, lawful_indexed, lawful_followed}
use Rattle.syntax_tree.specs.expression_tree.Trees.{Tree, Listed, Elements, single, span, no_elements, and_element, Operand, Operands, plain, wide, no_operands, and_operand, number, text, control, nil, set, call, signed, negated, combined, name, field, index, followed as followed_tree, of_sign}
use Rattle.call_rules.proofs.CallLaws.{lawful_cast, lawful_called}
use Rattle.call_rules.specs.standard_rules.Sizes.{is_size, sized, variable_sized}
use Rattle.call_rules.specs.standard_rules.Standard.{is_special, standard}
use Rattle.call_rules.proofs.standard_rules.StandardLaws.{lawful_standard, lawful_sized}
use Rattle.call_rules.proofs.set_rules.SetLaws.{lawful_constructed}
use Rattle.call_rules.specs.method_rules.Methods.{Bound, bound}
use Rattle.call_rules.proofs.method_rules.MethodLaws.{lawful_bound, lawful_inherited}
use Rattle.call_rules.proofs.method_rules.MethodLaws as methods
use Rattle.call_rules.specs.procedural_rules.Through.{held_routine}
use Rattle.call_rules.proofs.procedural_rules.ProceduralLaws.{lawful_held_routine, lawful_called_through, lawful_settled, lawful_routine_value}
use Rattle.call_rules.specs.allocation_rules.Allocations.{constructor, blank}
use Rattle.call_rules.proofs.allocation_rules.AllocationLaws.{lawful_constructor, lawful_made, lawful_newly, lawful_blank}
use Rattle.tp_check_expr.specs.declared.names.Purpose.{Purpose}
use Rattle.tp_check_expr.specs.declared.names.Purpose.TheVariants as purpose
use Rattle.tp_check_expr.specs.declared.owners.TypeName.{TypeName}
use Rattle.tp_check_expr.specs.Names.{variable, purpose_of, as_wanted, routine_wanted, standard_called, standard_wanted, entered}
use Rattle.tp_check_expr.specs.Owners.{Instance, self_of, owner_in, type_in, by_type, inherited_on, inherited_from}
use Rattle.tp_check_expr.specs.Calls.{is_method_of, method_wanted, chosen, opened, meant, constructor_named, name_for, name_judged, Callable, declared, method, through, maker, entered_by, member_callable, callable_entry, callable_member, callable_meant, callable_name, params_of, called_with, target_called, special_of, applied_by, applied, constructor_at, target_for}
use Rattle.tp_check_expr.specs.Typed.{marked, first_param, rest_params, size_by, making, misplaced, miscalled, judged_as, judged, callable, items_judged, item_judged, all_given, one_given, special_given, made_by}

module _ (types : List TypeDef) (place : Place) where
  lawful_as : (for : Purpose) (x : Expression) → Lawful (as_wanted types place for x)
  lawful_as purpose.Value x = lawful_settled types place x
  lawful_as purpose.Variable x = lawful_makes x
  lawful_as (purpose.Routine ty fault) x = lawful_makes x
  lawful_as (purpose.Constructor ty at) x = lawful_makes x

  lawful_standard_called : (n : ℕ) → Lawful (standard_called types place n)
  lawful_standard_called n =
      lawful_either (is_special n) (refuses (broken place rules.Called)) (standard types place n []) (lawful_refuses _) (lawful_standard types place n [])

  lawful_standard_wanted : (for : Purpose) (n : ℕ) → Lawful (standard_wanted types place for n)
  lawful_standard_wanted purpose.Value n = lawful_standard_called n
  lawful_standard_wanted purpose.Variable n = lawful_standard_called n
  lawful_standard_wanted (purpose.Routine ty fault) n = lawful_refuses _
  lawful_standard_wanted (purpose.Constructor ty at) n = lawful_standard_called n

  lawful_entered_by : (e : Expression) → Lawful (entered_by types place e)
  lawful_entered_by e = lawful_part (held_routine types place e) _ (lawful_held_routine types place e) (λ one. lawful_makes _)

lawful_by_type : {C : Type 0} (ty : Option TypeName) (f : TypeName → Judgement C) (j : Judgement C) → ((one : TypeName) → Lawful (f one)) → Lawful j → Lawful (by_type ty f j)
lawful_by_type None f j m n = n
lawful_by_type (Some one) f j m n = m one

module _ (types : List TypeDef) (here : Position) where
  lawful_method : (for : Purpose) (one : Bound) → Lawful (method_wanted types here for one)
  lawful_method purpose.Value one = methods.lawful_called types here.place here.switches.r one []
  lawful_method purpose.Variable one = methods.lawful_called types here.place here.switches.r one []
  lawful_method (purpose.Routine ty fault) one = lawful_refuses _
  lawful_method (purpose.Constructor ty at) one = methods.lawful_called types here.place here.switches.r one []

  lawful_with : (one : Entry) (es : List Expression) → Lawful (called_with types here one es)
  lawful_with (entry.Const ty v) es = lawful_refuses _
  lawful_with (entry.Ty ty) es = lawful_cast types here.place ty es
  lawful_with (entry.Var unit level n ty) es = lawful_refuses _
  lawful_with (entry.Code routine level header far) es = lawful_called types here.place here.switches.r routine header es
  lawful_with (entry.Std n) es = lawful_standard types here.place n es

  lawful_target : (one : Callable) (es : List Expression) → Lawful (target_called types here one es)
  lawful_target (declared one) es = lawful_with one es
  lawful_target (method one) es = methods.lawful_called types here.place here.switches.r one es
  lawful_target (through one) es = lawful_called_through types here.place here.switches.r one es
  lawful_target (maker ty one) es = lawful_made types here.place here.switches.r ty one es

module _ (values : Judgement (List Expression)) (special : ℕ → Judgement Expression) (calls : List Expression → Judgement Expression) where
  lawful_applied_by : (count : Option ℕ) → Lawful values → ((n : ℕ) → Lawful (special n)) → ((es : List Expression) → Lawful (calls es)) → Lawful (applied_by count values special calls)
  lawful_applied_by None m n o = lawful_part values _ m o
  lawful_applied_by (Some count) m n o = n count

module _ (types : List TypeDef) (here : Position) where
  lawful_applied : (one : Callable) (values : Judgement (List Expression)) (special : ℕ → Judgement Expression) → Lawful values → ((n : ℕ) → Lawful (special n)) → Lawful (applied types here one values special)
  lawful_applied one values special m n = lawful_applied_by values special (target_called types here one) (special_of one) m n (λ es. lawful_target types here one es)

lawful_misplaced : {A : Type 0} (place : Place) (j : Judgement A) → Lawful j → Lawful (misplaced place j)
lawful_misplaced place j m = lawful_part j _ m (λ a. lawful_refuses _)

lawful_miscalled : {A : Type 0} (place : Place) (j : Judgement A) → Lawful j → Lawful (miscalled place j)
lawful_miscalled place j m = lawful_part j _ m (λ a. lawful_refuses _)

module _ (g : Environment) (here : Position) where
  lawful_routine : (for : Purpose) (routine : RoutineId) (level : ℕ) (header : Header) (far : Bool) → Lawful (routine_wanted g here for routine level header far)
  lawful_routine purpose.Value routine level header far = lawful_called g.types.types here.place here.switches.r routine header []
  lawful_routine purpose.Variable routine level header far = lawful_called g.types.types here.place here.switches.r routine header []
  lawful_routine (purpose.Routine ty fault) routine level header far = lawful_routine_value g here.place fault ty routine level header far
  lawful_routine (purpose.Constructor ty at) routine level header far = lawful_called g.types.types here.place here.switches.r routine header []

  lawful_entered : (for : Purpose) (one : Entry) → Lawful (entered g here for one)
  lawful_entered for (entry.Const ty v) = lawful_makes _
  lawful_entered for (entry.Ty ty) = lawful_refuses _
  lawful_entered for (entry.Var unit level n ty) = lawful_as g.types.types here.place for (Load ty (Var (variable g unit level n)))
  lawful_entered for (entry.Code routine level header far) = lawful_routine for routine level header far
  lawful_entered for (entry.Std n) = lawful_standard_wanted g.types.types here.place for n

  lawful_chosen : (for : Purpose) (e : Expression) (word : List ℕ) → Lawful (chosen g here for e word)
  lawful_chosen for e word =
      lawful_either (is_method_of g.types.types e word) (part (bound g here.place e word) (λ one. method_wanted g.types.types here for one))
      (part (selected g.types.types here.place e word) (λ x. as_wanted g.types.types here.place for x))
      (lawful_part (bound g here.place e word) _ (lawful_bound g here.place e word) (λ one. lawful_method g.types.types here for one))
      (lawful_part (selected g.types.types here.place e word) _ (lawful_selected g.types.types here.place e word) (λ x. lawful_as g.types.types here.place for x))

  lawful_opened : (for : Purpose) (owner : Option Expression) (word : List ℕ) → Lawful (opened g here for owner word)
  lawful_opened for None word = lawful_refuses _
  lawful_opened for (Some owner) word = lawful_chosen for owner word

  lawful_meant : (for : Purpose) (word : List ℕ) (feature : Option Feature) (one : Option Meaning) → Lawful (meant g here for word feature one)
  lawful_meant for word feature None = lawful_refuses _
  lawful_meant for word feature (Some (named n one)) = lawful_entered for one
  lawful_meant for word feature (Some (member n one)) = lawful_opened for (owner_in g n (kind_of g n)) word

  lawful_constructor_named : (ty : TypeId) (place : Place) (word : List ℕ) → Lawful (constructor_named g here ty place word)
  unfolding constructor_named
  lawful_constructor_named ty place word =
      lawful_part (constructor g place ty word) _ (lawful_constructor g place ty word) (λ one. lawful_made g.types.types here.place here.switches.r ty one [])

  lawful_name_for : (for : Purpose) (word : List ℕ) → Lawful (name_for g here for word)
  lawful_name_for purpose.Value word = lawful_meant purpose.Value word (feature_of word) (find g word)
  lawful_name_for purpose.Variable word = lawful_meant purpose.Variable word (feature_of word) (find g word)
  lawful_name_for (purpose.Routine ty fault) word = lawful_meant (purpose.Routine ty fault) word (feature_of word) (find g word)
  lawful_name_for (purpose.Constructor ty place) word = lawful_constructor_named ty place word

  lawful_name : (for : Purpose) (word : List ℕ) → Lawful (name_judged g here for word)
  unfolding name_judged
  lawful_name for word = lawful_name_for for word

module _ (g : Environment) where
  lawful_inherited_on : (place : Place) (one : TypeName) (word : List ℕ) (own : Option Instance) → Lawful (inherited_on g place one word own)
  lawful_inherited_on place one word None = lawful_refuses _
  lawful_inherited_on place one word (Some own) = lawful_inherited g place one.place own.class own.at one.ty word

  lawful_inherited_from : (place : Place) (one : TypeName) (word : List ℕ) → Lawful (inherited_from g place one word)
  lawful_inherited_from place one word = lawful_inherited_on place one word (self_of g)

  lawful_member : (place here : Place) (e : Expression) (word : List ℕ) → Lawful (member_callable g place here e word)
  lawful_member place here e word =
      lawful_either (is_method_of g.types.types e word) (part (bound g here e word) (λ one. makes (method one)))
      (part (selected g.types.types here e word) (λ x. entered_by g.types.types place x))
      (lawful_part (bound g here e word) _ (lawful_bound g here e word) (λ one. lawful_makes _))
      (lawful_part (selected g.types.types here e word) _ (lawful_selected g.types.types here e word) (λ x. lawful_entered_by g.types.types place x))

  lawful_callable_entry : (place : Place) (one : Entry) → Lawful (callable_entry g place one)
  lawful_callable_entry place (entry.Const ty v) = lawful_refuses _
  lawful_callable_entry place (entry.Ty ty) = lawful_makes _
  lawful_callable_entry place (entry.Var unit level n ty) = lawful_entered_by g.types.types place (Load ty (Var (variable g unit level n)))
  lawful_callable_entry place (entry.Code routine level header far) = lawful_makes _
  lawful_callable_entry place (entry.Std n) = lawful_makes _

  lawful_callable_member : (place : Place) (owner : Option Expression) (word : List ℕ) → Lawful (callable_member g place owner word)
  lawful_callable_member place None word = lawful_refuses _
  lawful_callable_member place (Some owner) word = lawful_member place place owner word

  lawful_callable_meant : (place : Place) (word : List ℕ) (feature : Option Feature) (one : Option Meaning) → Lawful (callable_meant g place word feature one)
  lawful_callable_meant place word feature None = lawful_refuses _
  lawful_callable_meant place word feature (Some (named n one)) = lawful_callable_entry place one
  lawful_callable_meant place word feature (Some (member n one)) = lawful_callable_member place (owner_in g n (kind_of g n)) word

  lawful_callable_name : (place : Place) (word : List ℕ) → Lawful (callable_name g place word)
  unfolding callable_name
  lawful_callable_name place word = lawful_callable_meant place word (feature_of word) (find g word)

  module _ (ty : TypeId) (place : Place) where
    lawful_constructor_at : (callee : Tree) → Lawful (constructor_at g ty place callee)
    lawful_constructor_at (name at word) = lawful_part (constructor g place ty word) _ (lawful_constructor g place ty word) (λ one. lawful_makes _)
    lawful_constructor_at (number at n) = lawful_refuses _
    lawful_constructor_at (text at bytes) = lawful_refuses _
    lawful_constructor_at (control at letter) = lawful_refuses _
    lawful_constructor_at (nil at) = lawful_refuses _
    lawful_constructor_at (set at listed) = lawful_refuses _
    lawful_constructor_at (call at callee given) = lawful_refuses _
    lawful_constructor_at (signed mark a) = lawful_refuses _
    lawful_constructor_at (negated at a) = lawful_refuses _
    lawful_constructor_at (combined at op a b) = lawful_refuses _
    lawful_constructor_at (field at a one) = lawful_refuses _
    lawful_constructor_at (index at a i) = lawful_refuses _
    lawful_constructor_at (followed_tree at a) = lawful_refuses _

  lawful_target_for : (for : Purpose) (callee : Tree) (otherwise : Judgement Callable) → Lawful otherwise → Lawful (target_for g for callee otherwise)
  lawful_target_for purpose.Value callee otherwise m = m
  lawful_target_for purpose.Variable callee otherwise m = m
  lawful_target_for (purpose.Routine ty fault) callee otherwise m = m
  lawful_target_for (purpose.Constructor ty place) callee otherwise m = lawful_constructor_at ty place callee

  lawful_size_by : (place : Place) (ty : Option TypeName) (j : Judgement Expression) → Lawful j → Lawful (size_by g place ty j)
  lawful_size_by place ty j m =
      lawful_by_type ty (λ one. makes (sized g.types.types one.ty)) (part j (λ e. variable_sized g.types.types place e))
      (λ one. lawful_makes _) (lawful_part j _ m (λ e. lawful_sized g.types.types place e))

lawful_making : (place : Place) (j : Judgement Expression) → Lawful j → Lawful (making place j)
lawful_making place j m = lawful_part j _ m (λ e. lawful_newly place e)

lawful_marked : (types : List TypeDef) (mark : Option PlacedSign) (x : Expression) → Lawful (marked types mark x)
lawful_marked types None x = lawful_makes x
lawful_marked types (Some mark) x = lawful_signed types mark.position.place (of_sign mark.sign) x

abbrev AreLawful : Environment → Operands → Type 0
AreLawful g no_operands = Unit {0}
AreLawful g (and_operand (plain one) rest) = ((for : Purpose) → Lawful (judged_as g for one)) × AreLawful g rest
AreLawful g (and_operand (wide one width) rest) = AreLawful g rest

module _ (g : Environment) (here : Position) (n : ℕ) (values : Judgement (List Expression)) (m : Lawful values) where
  -- a type, or what stands where one is due
  lawful_typed : (one : Tree) → Lawful (judged_as g purpose.Value one) → (f : TypeName → Judgement Expression) → ((ty : TypeName) → Lawful (f ty))
      → Lawful (by_type (type_in g one) f (misplaced here.place (judged_as g purpose.Value one)))
  lawful_typed one j f l = lawful_by_type (type_in g one) f (misplaced here.place (judged_as g purpose.Value one)) l (lawful_misplaced here.place (judged_as g purpose.Value one) j)

  lawful_special : (given : Operands) → AreLawful g given → Lawful (special_given g here n values given)
  lawful_special no_operands a = lawful_miscalled here.place values m
  lawful_special (and_operand (wide one width) rest) a = lawful_miscalled here.place values m
  lawful_special (and_operand (plain one) no_operands) a =
      lawful_either (is_size n) (size_by g here.place (type_in g one) (judged_as g purpose.Variable one))
      (by_type (type_in g one) (λ t. blank g.types.types here.place t.ty) (misplaced here.place (judged_as g purpose.Value one)))
      (lawful_size_by g here.place (type_in g one) (judged_as g purpose.Variable one) (a.0 purpose.Variable))
      (lawful_typed one (a.0 purpose.Value) (λ t. blank g.types.types here.place t.ty) (λ t. lawful_blank g.types.types here.place t.ty))
  lawful_special (and_operand (plain one) (and_operand (plain two) no_operands)) a =
      lawful_either (is_size n) (miscalled here.place values)
      (by_type (type_in g one) (λ t. making here.place (judged_as g (purpose.Constructor t.ty here.place) two)) (misplaced here.place (judged_as g purpose.Value one)))
      (lawful_miscalled here.place values m)
      (lawful_typed one (a.0 purpose.Value) (λ t. making here.place (judged_as g (purpose.Constructor t.ty here.place) two))
      (λ t. lawful_making here.place (judged_as g (purpose.Constructor t.ty here.place) two) (a.1.0 (purpose.Constructor t.ty here.place))))
  lawful_special (and_operand (plain one) (and_operand (plain two) (and_operand three rest))) a = lawful_miscalled here.place values m
  lawful_special (and_operand (plain one) (and_operand (wide two width) rest)) a = lawful_miscalled here.place values m

mutual
  pub lawful_judged : (g : Environment) (for : Purpose) (tree : Tree) → Lawful (judged_as g for tree)
  lawful_judged g for (number place n) = lawful_makes _
  lawful_judged g for (text place bytes) = lawful_makes _
  lawful_judged g for (control place letter) = lawful_makes _
  lawful_judged g for (nil place) = lawful_makes _
  lawful_judged g for (set here listed) = lawful_part (items_judged g listed) _ (lawful_items g listed) (λ items. lawful_constructed g.types.types here.place here.switches.r items)
  lawful_judged g for (call here callee given) =
      lawful_part (target_for g for callee (callable g here.place callee)) _ (lawful_target_for g for callee (callable g here.place callee) (lawful_callable g here.place callee))
      (λ one. lawful_applied g.types.types here one (all_given g here (params_of one) given) (λ n. special_given g here n (all_given g here [] given) given)
      (lawful_all g here (params_of one) given) (λ n. lawful_special g here n (all_given g here [] given) (lawful_all g here [] given) given (lawful_given g given)))
  lawful_judged g for (signed mark a) = lawful_part (judged_as g purpose.Value a) _ (lawful_judged g purpose.Value a) (λ x. lawful_marked g.types.types mark x)
  lawful_judged g for (negated place a) = lawful_part (judged_as g purpose.Value a) _ (lawful_judged g purpose.Value a) (λ x. lawful_negated g.types.types place x)
  lawful_judged g for (combined here op a b) =
      lawful_parts (judged_as g purpose.Value a) (judged_as g purpose.Value b) _ (lawful_judged g purpose.Value a) (lawful_judged g purpose.Value b)
      (λ x y. lawful_combined g.types.types here.place op (not here.switches.b) x y)
  lawful_judged g for (name here word) = lawful_name g here for word
  lawful_judged g for (field here a word) =
      lawful_by_type (type_in g a) (λ one. part (inherited_from g here.place one word) (λ b. method_wanted g.types.types here for b))
      (part (judged_as g purpose.Value a) (λ x. chosen g here for x word))
      (λ one. lawful_part (inherited_from g here.place one word) _ (lawful_inherited_from g here.place one word) (λ b. lawful_method g.types.types here for b))
      (lawful_part (judged_as g purpose.Value a) _ (lawful_judged g purpose.Value a) (λ x. lawful_chosen g here for x word))
  lawful_judged g for (index here a i) =
      lawful_part (parts (judged_as g purpose.Value a) (judged_as g purpose.Value i) (λ x y. indexed g.types.types here.place here.switches.r x y)) _
      (lawful_parts (judged_as g purpose.Value a) (judged_as g purpose.Value i) _ (lawful_judged g purpose.Value a) (lawful_judged g purpose.Value i)
      (λ x y. lawful_indexed g.types.types here.place here.switches.r x y))
      (λ e. lawful_as g.types.types here.place for e)
  lawful_judged g for (followed_tree place a) =
      lawful_part (part (judged_as g purpose.Value a) (λ x. followed g.types.types place x)) _
      (lawful_part (judged_as g purpose.Value a) _ (lawful_judged g purpose.Value a) (λ x. lawful_followed g.types.types place x))
      (λ e. lawful_as g.types.types place for e)

  pub lawful_callable : (g : Environment) (place : Place) (callee : Tree) → Lawful (callable g place callee)
  lawful_callable g place (name at word) = lawful_callable_name g at.place word
  lawful_callable g place (field at a word) =
      lawful_by_type (type_in g a) (λ one. part (inherited_from g at.place one word) (λ b. makes (method b)))
      (part (judged_as g purpose.Value a) (λ x. member_callable g place at.place x word))
      (λ one. lawful_part (inherited_from g at.place one word) _ (lawful_inherited_from g at.place one word) (λ b. lawful_makes _))
      (lawful_part (judged_as g purpose.Value a) _ (lawful_judged g purpose.Value a) (λ x. lawful_member g place at.place x word))
  lawful_callable g place (index at a i) =
      lawful_part (parts (judged_as g purpose.Value a) (judged_as g purpose.Value i) (λ x y. indexed g.types.types at.place at.switches.r x y)) _
      (lawful_parts (judged_as g purpose.Value a) (judged_as g purpose.Value i) _ (lawful_judged g purpose.Value a) (lawful_judged g purpose.Value i)
      (λ x y. lawful_indexed g.types.types at.place at.switches.r x y))
      (λ e. lawful_entered_by g.types.types place e)
  lawful_callable g place (followed_tree at a) =
      lawful_part (part (judged_as g purpose.Value a) (λ x. followed g.types.types at x)) _
      (lawful_part (judged_as g purpose.Value a) _ (lawful_judged g purpose.Value a) (λ x. lawful_followed g.types.types at x))
      (λ e. lawful_entered_by g.types.types place e)
  lawful_callable g place (number at n) = lawful_refuses _
  lawful_callable g place (text at bytes) = lawful_refuses _
  lawful_callable g place (control at letter) = lawful_refuses _
  lawful_callable g place (nil at) = lawful_refuses _
  lawful_callable g place (set at listed) = lawful_refuses _
  lawful_callable g place (call at callee given) = lawful_refuses _
  lawful_callable g place (signed mark a) = lawful_refuses _
  lawful_callable g place (negated at a) = lawful_refuses _
  lawful_callable g place (combined at op a b) = lawful_refuses _

  pub lawful_items : (g : Environment) (listed : Elements) → Lawful (items_judged g listed)
  lawful_items g no_elements = lawful_makes _
  lawful_items g (and_element one rest) = lawful_parts (item_judged g one) (items_judged g rest) _ (lawful_item g one) (lawful_items g rest) (λ x xs. lawful_makes _)

  pub lawful_item : (g : Environment) (one : Listed) → Lawful (item_judged g one)
  lawful_item g (single a) = lawful_part (judged_as g purpose.Value a) _ (lawful_judged g purpose.Value a) (λ x. lawful_makes _)
  lawful_item g (span a b) =
      lawful_parts (judged_as g purpose.Value a) (judged_as g purpose.Value b) _ (lawful_judged g purpose.Value a) (lawful_judged g purpose.Value b) (λ x y. lawful_makes _)

  pub lawful_all : (g : Environment) (here : Position) (params : List Param) (all : Operands) → Lawful (all_given g here params all)
  lawful_all g here params no_operands = lawful_makes _
  lawful_all g here params (and_operand one rest) =
      lawful_parts (one_given g here (first_param params) one) (all_given g here (rest_params params) rest) _
      (lawful_one g here (first_param params) one) (lawful_all g here (rest_params params) rest) (λ e es. lawful_makes _)

  pub lawful_one : (g : Environment) (here : Position) (param : Option Param) (one : Operand) → Lawful (one_given g here param one)
  lawful_one g here param (plain one) = lawful_judged g (purpose_of g.types.types here.place param) one
  lawful_one g here param (wide one width) =
      lawful_parts (judged_as g purpose.Value one) (judged_as g purpose.Value width) _ (lawful_judged g purpose.Value one) (lawful_judged g purpose.Value width) (λ e w. lawful_refuses _)

  -- each argument without a width, whatever it stands for
  lawful_given : (g : Environment) (given : Operands) → AreLawful g given
  lawful_given g no_operands = tt
  lawful_given g (and_operand (plain one) rest) = ((λ for. lawful_judged g for one), lawful_given g rest)
  lawful_given g (and_operand (wide one width) rest) = lawful_given g rest

pub lawful : (g : Environment) (tree : Tree) → Lawful (judged g tree)
lawful g tree = lawful_judged g purpose.Value tree

-- a new block with the constructor that an expression calls
pub lawful_made_by : (g : Environment) (place : Place) (ty : TypeId) (tree : Tree) → Lawful (made_by g place ty tree)
lawful_made_by g place ty tree = lawful_making place (judged_as g (purpose.Constructor ty place) tree) (lawful_judged g (purpose.Constructor ty place) tree)

-- Constants are judged lawfully.
use Rattle.std.proofs.Common.{◌≡◌, ℕ, ℤ, pos, ◌+ℤ◌, ◌-ℤ◌, ◌≤ℤ◌, int_le, Bool, true, false, cond, List, [], ◌∷◌, ◌++◌, Option, Some, None, Decides, refl, arith}
use Rattle.std.proofs.lemmas.Int.{ints}
use Rattle.std.proofs.lemmas.Bool.Decides.{Decides-and}
use Rattle.type_layout.specs.declared.definitions.TypeId.{TypeId}
use Rattle.type_layout.specs.declared.definitions.Host.TheVariants as host
use Rattle.type_layout.specs.declared.definitions.TypeDef.{TypeDef}
use Rattle.type_layout.specs.declared.texts.Place.{Place}
use Rattle.type_layout.specs.Layouts.{bounds_at}
use Rattle.type_layout.specs.Storage.{holds}
use Rattle.typed_tree.specs.declared.expressions.Value.{Value}
use Rattle.typed_tree.specs.declared.expressions.Value.TheVariants as value
use Rattle.typed_tree.specs.Expressions.{Expression, Const, RoutineValue, Load, Unary, Binary, Convert, Range, SetOf, Call, CallVirtual, CallThrough, Std, Make}
use Rattle.syntax_tree.specs.declared.expression.PlacedSign.{PlacedSign}
use Rattle.typed_tree.specs.declared.expressions.UnaryOp.{UnaryOp}
use Rattle.typed_tree.specs.declared.expressions.BinaryOp.{BinaryOp}
use Rattle.scopes.specs.declared.entries.Entry.{Entry}
use Rattle.scopes.specs.declared.entries.Entry.TheVariants as entry
use Rattle.scopes.specs.Environment.{Environment, Meaning, named, member, find}
use Rattle.tp_lexer.specs.declared.token.Feature.{Feature}
use Rattle.tp_lexer.specs.left_out_names.Names.{feature_of}
use Rattle.typing_rules.specs.declared.faults.Rule.TheVariants as rules
use Rattle.typing_rules.specs.declared.sorts.SetBase.{SetBase}
use Rattle.typing_rules.specs.declared.sorts.Sort.{Sort}
use Rattle.typing_rules.specs.Faults.{broken}
use Rattle.typing_rules.specs.Judgements.{Judgement, refuses, makes, rule, either, part, parts}
use Rattle.typing_rules.specs.Selectors.{selected}
use Rattle.typing_rules.specs.Sorts.{sort_of_type, sort_of_constant}
use Rattle.typing_rules.specs.Operators.{sign_value}
use Rattle.typing_rules.specs.Plans.{operation_of, Asks, AsksNot, IsInteger, is_integer, is_text, allows, allows_not, rule_of}
use Rattle.call_rules.specs.set_rules.Bases.{set_over}
use Rattle.typing_rules.specs.Laws.{Lawful}
use Rattle.typing_rules.proofs.JudgementLaws.{lawful_makes, lawful_refuses, lawful_rule, lawful_either, lawful_part, lawful_parts}
use Rattle.typing_rules.proofs.SelectorLaws.{lawful_selected, lawful_indexed, lawful_followed}
use Rattle.typing_rules.proofs.PlanLaws.{no, tells_integer, tells_allowed, tells_not, tells_one_host}
use Rattle.call_rules.specs.declared.standard_rules.signatures.Signature.{Signature}
use Rattle.call_rules.specs.standard_rules.Signatures.{signature_of}
use Rattle.call_rules.proofs.standard_rules.StandardLaws.{tells_accepted}
use Rattle.common_values.specs.declared.ordinals.IntegerType.TheVariants.{Byte, LongInt}
use Rattle.common_values.specs.Ordinals.{kept}
use Rattle.common_values.specs.Strings.{joined}
use Rattle.syntax_tree.specs.expression_tree.Trees.{Tree, Listed, Elements, single, span, no_elements, and_element, Operand, Operands, plain, wide, no_operands, and_operand, number, text, control, nil, set, call, signed, negated, combined, name, field, index, followed, of_sign, sole_designator}
use Rattle.constant_checker.specs.declared.constant_expressions.constants.Constant.{Constant}
use Rattle.constant_checker.specs.constant_expressions.Values as values
use Rattle.constant_checker.specs.constant_expressions.Values.{bytes_of, number_of, IsWithin, is_within, taken, computed, compares, base_in, integer, turned, sets_combined, numbered, combined_values, combined_by}
use Rattle.constant_checker.specs.declared.constant_expressions.functions.Function.{Function}
use Rattle.constant_checker.specs.declared.constant_expressions.functions.Function.TheVariants.{Abs, Odd, Ord, Chr, Succ, Pred, Hi, Lo, Swap, UpCase, Length}
use Rattle.constant_checker.specs.declared.constant_expressions.functions.StandardFunction.{StandardFunction}
use Rattle.constant_checker.specs.constant_expressions.Functions.{function_of, bounded, stepped, applied, chosen, function_entry, function_meant, function_at, function_named, IsTaken, is_taken, called_on, called_with}
use Rattle.constant_checker.specs.declared.constant_expressions.constructors.Ordinal.{Ordinal}
use Rattle.constant_checker.specs.declared.constant_expressions.constructors.Span.{Span}
use Rattle.constant_checker.specs.constant_expressions.Constructors.{IsElement, is_element, IsSpan, is_span, AreSpans, are_spans, first_sort, base_bounds, typed_set, set_of_type, set_by, set_of}
use Rattle.call_rules.specs.standard_rules.Sizes.{has_class}
use Rattle.constant_checker.specs.constant_expressions.Sizes.{asks_size, size_constant, size_held, size_by, instance, operand, is_method_of, selected_from, owner_entry, owner_meaning, owner_name, sized_entry, sized_meaning, sized_name, sized, size_called}
use Rattle.constant_checker.specs.constant_expressions.Constants.{of_entry, of_meaning, of_name, marked, judged, meant, sole_meant, spans_judged, span_judged, operands_judged, operand_judged}

module _ (types : List TypeDef) (place : Place) where
  lawful_numbered : (s : Sort) (n : Option ℤ) → Lawful (numbered place s n)
  lawful_numbered s None = lawful_refuses _
  lawful_numbered s (Some n) = lawful_makes _

  lawful_values : (one : BinaryOp) (s : Sort) (base : Option SetBase) (a b : Constant) → Lawful (combined_values place one s base a b)
  lawful_values one s (Some base) a b = lawful_makes _
  lawful_values one s None a b =
      lawful_either (is_text s) (makes (values.text (joined (bytes_of a.value) (bytes_of b.value)))) (numbered place s (computed one (taken s (number_of a.value)) (taken s (number_of b.value))))
      (lawful_makes _) (lawful_numbered s (computed one (taken s (number_of a.value)) (taken s (number_of b.value))))

  abbrev truth_of : BinaryOp → Sort → Constant → Constant → Constant
  truth_of one s a b = values.truth (cond (values.related (operation_of one) one s a.value b.value) (pos 1) (pos 0))

  lawful_allowed : (one : BinaryOp) (s : Sort) (a b : Constant) → Lawful (values.allowed place one s a b)
  unfolding values.allowed
  lawful_allowed one s a b =
      lawful_either (compares (operation_of one)) (makes (truth_of one s a b)) (combined_values place one s (base_in s) a b) (lawful_makes _) (lawful_values one s (base_in s) a b)

  lawful_by : (one : BinaryOp) (s t : Sort) (a b : Constant) → Lawful (combined_by place one s t a b)
  lawful_by one s t a b =
      lawful_part (rule (broken place (rule_of (operation_of one) s t)) (allows (operation_of one) s t) (Asks (operation_of one) s t) tt)
      (λ u. values.allowed place one s a b)
      (lawful_rule (broken place (rule_of (operation_of one) s t)) (allows (operation_of one) s t) (Asks (operation_of one) s t) tt (tells_allowed (operation_of one) s t))
      (λ u. lawful_allowed one s a b)

  lawful_combined : (one : BinaryOp) (a b : Constant) → Lawful (values.combined types place one a b)
  unfolding values.combined
  lawful_combined one a b = lawful_by one (sort_of_constant types a.ty a.value) (sort_of_constant types b.ty b.value) a b

  lawful_signed : (one : UnaryOp) (a : Constant) → Lawful (values.signed types place one a)
  unfolding values.signed
  lawful_signed one a = lawful_rule (broken place rules.Arithmetic) (is_integer (sort_of_type types a.ty)) (IsInteger (sort_of_type types a.ty)) (integer (sign_value one (number_of a.value))) (tells_integer (sort_of_type types a.ty))

  lawful_negated : (a : Constant) → Lawful (values.negated types place a)
  unfolding values.negated
  lawful_negated a = lawful_rule (broken place rules.Logic) (allows_not (sort_of_type types a.ty)) (AsksNot (sort_of_type types a.ty)) (turned (sort_of_type types a.ty) (number_of a.value)) (tells_not (sort_of_type types a.ty))

  lawful_entry : (one : Entry) → Lawful (of_entry types place one)
  lawful_entry (entry.Const ty v) = lawful_makes _
  lawful_entry (entry.Ty ty) = lawful_refuses _
  lawful_entry (entry.Var unit level n ty) = lawful_refuses _
  lawful_entry (entry.Code routine level header far) = lawful_refuses _
  lawful_entry (entry.Std n) = lawful_refuses _

  lawful_meaning : (feature : Option Feature) (one : Option Meaning) → Lawful (of_meaning types place feature one)
  lawful_meaning feature None = lawful_refuses _
  lawful_meaning feature (Some (named n one)) = lawful_entry one
  lawful_meaning feature (Some (member n one)) = lawful_refuses _

lawful_name : (g : Environment) (place : Place) (word : List ℕ) → Lawful (of_name g place word)
unfolding of_name
lawful_name g place word = lawful_meaning g.types.types place (feature_of word) (find g word)

lawful_marked : (types : List TypeDef) (mark : Option PlacedSign) (x : Constant) → Lawful (marked types mark x)
lawful_marked types None x = lawful_makes x
lawful_marked types (Some mark) x = lawful_signed types mark.position.place (of_sign mark.sign) x

-- ---- functions

lawful_chosen : (place : Place) (n : ℕ) (one : Option Function) → Lawful (chosen place n one)
lawful_chosen place n None = lawful_refuses _
lawful_chosen place n (Some one) = lawful_makes _

lawful_function_entry : (place : Place) (one : Entry) → Lawful (function_entry place one)
lawful_function_entry place (entry.Const ty v) = lawful_refuses _
lawful_function_entry place (entry.Ty ty) = lawful_refuses _
lawful_function_entry place (entry.Var unit level n ty) = lawful_refuses _
lawful_function_entry place (entry.Code routine level header far) = lawful_refuses _
lawful_function_entry place (entry.Std n) = lawful_chosen place n (function_of n)

lawful_function_meant : (place : Place) (feature : Option Feature) (one : Option Meaning) → Lawful (function_meant place feature one)
lawful_function_meant place feature None = lawful_refuses _
lawful_function_meant place feature (Some (named n one)) = lawful_function_entry place one
lawful_function_meant place feature (Some (member n one)) = lawful_refuses _

lawful_function_at : (g : Environment) (place : Place) (word : List ℕ) → Lawful (function_at g place word)
unfolding function_at
lawful_function_at g place word = lawful_function_meant place (feature_of word) (find g word)

lawful_function : (g : Environment) (place : Place) (callee : Tree) → Lawful (function_named g place callee)
lawful_function g place (name here word) = lawful_function_at g here.place word
lawful_function g place (number at n) = lawful_refuses _
lawful_function g place (text at bytes) = lawful_refuses _
lawful_function g place (control at letter) = lawful_refuses _
lawful_function g place (nil at) = lawful_refuses _
lawful_function g place (set at listed) = lawful_refuses _
lawful_function g place (call at callee given) = lawful_refuses _
lawful_function g place (signed mark a) = lawful_refuses _
lawful_function g place (negated at a) = lawful_refuses _
lawful_function g place (combined at op a b) = lawful_refuses _
lawful_function g place (field at a one) = lawful_refuses _
lawful_function g place (index at a i) = lawful_refuses _
lawful_function g place (followed at a) = lawful_refuses _

tells_taken : (one : Option Signature) (s : Sort) → Decides (is_taken one s) (IsTaken one s)
tells_taken None s = no
tells_taken (Some one) s = tells_accepted one.shape (s ∷ [])

tells_rising : (m n : ℤ) → Decides (int_le m n) (m ≤ℤ n)
tells_rising m n = (λ e. grind (arith, ints), λ h. grind (arith, ints))

tells_within : (bounds : ℤ × ℤ) (n : ℤ) → Decides (is_within bounds n) (IsWithin bounds n)
tells_within bounds n = Decides-and _ _ (tells_rising bounds.0 n) (tells_rising n bounds.1)

lawful_bounded : (place : Place) (ty : TypeId) (bounds : ℤ × ℤ) (n : ℤ) → Lawful (bounded place ty bounds n)
lawful_bounded place ty bounds n =
    let one : Constant = record { ty = ty; value = value.Number n } in
    lawful_rule (broken place rules.Constant) (is_within bounds n) (IsWithin bounds n) one (tells_within bounds n)

lawful_stepped : (place : Place) (ty : TypeId) (s : Sort) (bounds : ℤ × ℤ) (n : ℤ) → Lawful (stepped place ty s bounds n)
lawful_stepped place ty s bounds n =
    lawful_either (is_integer s) (makes (integer (kept LongInt n))) (bounded place ty bounds (kept Byte n)) (lawful_makes _) (lawful_bounded place ty bounds (kept Byte n))

lawful_applied : (types : List TypeDef) (place : Place) (one : Function) (ty : TypeId) (s : Sort) (v : Value) → Lawful (applied types place one ty s v)
lawful_applied types place Abs ty s v = lawful_makes _
lawful_applied types place Odd ty s v = lawful_makes _
lawful_applied types place Ord ty s v = lawful_makes _
lawful_applied types place Chr ty s v = lawful_makes _
lawful_applied types place Succ ty s v = lawful_stepped place ty s (bounds_at types ty) (number_of v +ℤ pos 1)
lawful_applied types place Pred ty s v = lawful_stepped place ty s (bounds_at types ty) (number_of v -ℤ pos 1)
lawful_applied types place Hi ty s v = lawful_makes _
lawful_applied types place Lo ty s v = lawful_makes _
lawful_applied types place Swap ty s v = lawful_makes _
lawful_applied types place UpCase ty s v = lawful_makes _
lawful_applied types place Length ty s v = lawful_makes _

lawful_on : (types : List TypeDef) (place : Place) (f : StandardFunction) (s : Sort) (x : Constant) → Lawful (called_on types place f s x)
lawful_on types place f s x =
    lawful_part (rule (broken place rules.Called) (is_taken (signature_of f.number) s) (IsTaken (signature_of f.number) s) tt) (λ u. applied types place f.function x.ty (sort_of_type types x.ty) x.value)
    (lawful_rule (broken place rules.Called) (is_taken (signature_of f.number) s) (IsTaken (signature_of f.number) s) tt (tells_taken (signature_of f.number) s))
    (λ u. lawful_applied types place f.function x.ty (sort_of_type types x.ty) x.value)

lawful_called : (types : List TypeDef) (place : Place) (f : StandardFunction) (xs : List Constant) → Lawful (called_with types place f xs)
lawful_called types place f [] = lawful_refuses _
lawful_called types place f (x ∷ []) = lawful_on types place f (sort_of_constant types x.ty x.value) x
lawful_called types place f (x ∷ y ∷ rest) = lawful_refuses _

-- ---- SizeOf

lawful_size_held : (types : List TypeDef) (place : Place) (ty : TypeId) → Lawful (size_held types place ty)
lawful_size_held types place ty =
    lawful_either (has_class types ty) (refuses (broken place rules.Constant)) (makes (size_constant types ty)) (lawful_refuses _) (lawful_makes _)

lawful_size_by : (types : List TypeDef) (place : Place) (e : Expression) → Lawful (size_by types place e)
lawful_size_by types place (Load ty at) = lawful_size_held types place ty
lawful_size_by types place (Const ty v) = lawful_refuses _
lawful_size_by types place (RoutineValue ty routine) = lawful_refuses _
lawful_size_by types place (Unary ty op a) = lawful_refuses _
lawful_size_by types place (Binary ty op a b early) = lawful_refuses _
lawful_size_by types place (Convert ty a) = lawful_refuses _
lawful_size_by types place (Range ty a low high) = lawful_refuses _
lawful_size_by types place (SetOf ty listed) = lawful_refuses _
lawful_size_by types place (Call ty routine own args) = lawful_refuses _
lawful_size_by types place (CallVirtual ty own n checked args) = lawful_refuses _
lawful_size_by types place (CallThrough ty through args) = lawful_refuses _
lawful_size_by types place (Std ty n args) = lawful_refuses _
lawful_size_by types place (Make ty routine args) = lawful_refuses _

lawful_selected_from : (types : List TypeDef) (here : Place) (e : Expression) (word : List ℕ) → Lawful (selected_from types here e word)
lawful_selected_from types here e word =
    lawful_either (is_method_of types e word) (refuses (broken here rules.Constant)) (selected types here e word) (lawful_refuses _) (lawful_selected types here e word)

lawful_owner_entry : (types : List TypeDef) (at : Place) (one : Entry) → Lawful (owner_entry types at one)
lawful_owner_entry types at (entry.Const ty v) = lawful_makes _
lawful_owner_entry types at (entry.Var unit level n ty) = lawful_makes _
lawful_owner_entry types at (entry.Ty ty) = lawful_refuses _
lawful_owner_entry types at (entry.Code routine level header far) = lawful_refuses _
lawful_owner_entry types at (entry.Std n) = lawful_refuses _

lawful_owner_meaning : (types : List TypeDef) (at : Place) (word : List ℕ) (feature : Option Feature) (one : Option Meaning) → Lawful (owner_meaning types at word feature one)
lawful_owner_meaning types at word feature None = lawful_refuses _
lawful_owner_meaning types at word feature (Some (named n one)) = lawful_owner_entry types at one
lawful_owner_meaning types at word feature (Some (member n one)) = lawful_selected_from types at (instance one.class) word

lawful_owner : (g : Environment) (at : Place) (word : List ℕ) → Lawful (owner_name g at word)
unfolding owner_name
lawful_owner g at word = lawful_owner_meaning g.types.types at word (feature_of word) (find g word)

lawful_sized_entry : (types : List TypeDef) (place : Place) (one : Entry) → Lawful (sized_entry types place one)
lawful_sized_entry types place (entry.Const ty v) = lawful_refuses _
lawful_sized_entry types place (entry.Ty ty) = lawful_makes _
lawful_sized_entry types place (entry.Var unit level n ty) = lawful_size_held types place ty
lawful_sized_entry types place (entry.Code routine level header far) = lawful_refuses _
lawful_sized_entry types place (entry.Std n) = lawful_refuses _

lawful_sized_meaning : (types : List TypeDef) (place at : Place) (word : List ℕ) (feature : Option Feature) (one : Option Meaning) → Lawful (sized_meaning types place at word feature one)
lawful_sized_meaning types place at word feature None = lawful_refuses _
lawful_sized_meaning types place at word feature (Some (named n one)) = lawful_sized_entry types place one
lawful_sized_meaning types place at word feature (Some (member n one)) =
    lawful_part (selected_from types at (instance one.class) word) (λ e. size_by types place e) (lawful_selected_from types at (instance one.class) word) (λ e. lawful_size_by types place e)

lawful_sized_name : (g : Environment) (place at : Place) (word : List ℕ) → Lawful (sized_name g place at word)
unfolding sized_name
lawful_sized_name g place at word = lawful_sized_meaning g.types.types place at word (feature_of word) (find g word)

module _ (g : Environment) (place : Place) (means : Judgement Expression) (l : Lawful means) where
  lawful_meant_size : Lawful (part means (λ e. size_by g.types.types place e))
  lawful_meant_size = lawful_part means (λ e. size_by g.types.types place e) l (λ e. lawful_size_by g.types.types place e)

  lawful_sized : (one : Tree) → Lawful (sized g place one means)
  lawful_sized (name here word) = lawful_sized_name g place here.place word
  lawful_sized (number at n) = lawful_meant_size
  lawful_sized (text at bytes) = lawful_meant_size
  lawful_sized (control at letter) = lawful_meant_size
  lawful_sized (nil at) = lawful_meant_size
  lawful_sized (set at listed) = lawful_meant_size
  lawful_sized (call at callee given) = lawful_meant_size
  lawful_sized (signed mark a) = lawful_meant_size
  lawful_sized (negated at a) = lawful_meant_size
  lawful_sized (combined at op a b) = lawful_meant_size
  lawful_sized (field at a one) = lawful_meant_size
  lawful_sized (index at a i) = lawful_meant_size
  lawful_sized (followed at a) = lawful_meant_size

  lawful_size : (one : Option Tree) (given : Judgement (List Constant)) → Lawful given → Lawful (size_called g place one means given)
  lawful_size (Some one) given k = lawful_sized one
  lawful_size None given k = lawful_part given (λ all. refuses (broken place rules.Called)) k (λ all. lawful_refuses _)

-- ---- set constructors

-- a test tells itself
itself : (b : Bool) → Decides b (b ≡ true)
itself b = (λ e. e, λ e. e)

module _ (s : Sort) (bounds : ℤ × ℤ) where
  tells_element : (one : Ordinal) → Decides (is_element s bounds one) (IsElement s bounds one)
  tells_element one = Decides-and _ _ (tells_one_host s one.sort) (Decides-and _ _ (itself (holds host.Byte one.number one.number)) (tells_within bounds one.number))

  tells_span : (one : Span) → Decides (is_span s bounds one) (IsSpan s bounds one)
  tells_span one = Decides-and _ _ (tells_element one.low) (tells_element one.high)

  tells_spans : (spans : List Span) → Decides (are_spans s bounds spans) (AreSpans s bounds spans)
  tells_spans [] = (λ e. tt, λ h. refl)
  tells_spans (one ∷ rest) = Decides-and _ _ (tells_span one) (tells_spans rest)

lawful_typed : (place : Place) (ty : Option TypeId) (spans : List Span) → Lawful (typed_set place ty spans)
lawful_typed place None spans = lawful_refuses _
lawful_typed place (Some ty) spans = lawful_makes _

lawful_set_of_type : (types : List TypeDef) (place : Place) (s : Sort) (ty : Option TypeId) (spans : List Span) → Lawful (set_of_type types place s ty spans)
lawful_set_of_type types place s ty spans =
    let bounds = base_bounds types ty in
    lawful_part (rule (broken place rules.Listed) (are_spans s bounds spans) (AreSpans s bounds spans) tt) (λ u. typed_set place ty spans)
    (lawful_rule (broken place rules.Listed) (are_spans s bounds spans) (AreSpans s bounds spans) tt (tells_spans s bounds spans))
    (λ u. lawful_typed place ty spans)

lawful_set_by : (types : List TypeDef) (place : Place) (s : Option Sort) (spans : List Span) → Lawful (set_by types place s spans)
lawful_set_by types place None spans = lawful_makes _
lawful_set_by types place (Some s) spans = lawful_set_of_type types place s (set_over types s) spans

lawful_set : (types : List TypeDef) (place : Place) (spans : List Span) → Lawful (set_of types place spans)
unfolding set_of
lawful_set types place spans = lawful_set_by types place (first_sort spans) spans

-- ---- expressions

mutual
  pub lawful : (g : Environment) (tree : Tree) → Lawful (judged g tree)
  lawful g (number place n) = lawful_makes _
  lawful g (text place bytes) = lawful_makes _
  lawful g (control place letter) = lawful_makes _
  lawful g (nil place) = lawful_refuses _
  lawful g (set here elements) = lawful_part (spans_judged g [] elements) _ (lawful_spans g [] elements) (λ spans. lawful_set g.types.types here.place spans)
  lawful g (call here callee given) =
      lawful_either (asks_size g callee) (size_called g here.place (sole_designator given) (sole_meant g here.place given) (operands_judged g here.place [] given))
      (parts (function_named g here.place callee) (operands_judged g here.place [] given) (λ f xs. called_with g.types.types here.place f xs))
      (lawful_size g here.place (sole_meant g here.place given) (lawful_sole g here.place given) (sole_designator given) (operands_judged g here.place [] given) (lawful_operands g here.place [] given))
      (lawful_parts (function_named g here.place callee) (operands_judged g here.place [] given) _ (lawful_function g here.place callee) (lawful_operands g here.place [] given) (λ f xs. lawful_called g.types.types here.place f xs))
  lawful g (signed mark a) = lawful_part (judged g a) _ (lawful g a) (λ x. lawful_marked g.types.types mark x)
  lawful g (negated place a) = lawful_part (judged g a) _ (lawful g a) (λ x. lawful_negated g.types.types place x)
  lawful g (combined here op a b) = lawful_parts (judged g a) (judged g b) _ (lawful g a) (lawful g b) (λ x y. lawful_combined g.types.types here.place op x y)
  lawful g (name here one) = lawful_name g here.place one
  lawful g (field here a one) = lawful_part (judged g a) _ (lawful g a) (λ x. lawful_refuses _)
  lawful g (index here a i) = lawful_parts (judged g a) (judged g i) _ (lawful g a) (lawful g i) (λ x y. lawful_refuses _)
  lawful g (followed place a) = lawful_part (judged g a) _ (lawful g a) (λ x. lawful_refuses _)

  lawful_meant : (g : Environment) (place : Place) (tree : Tree) → Lawful (meant g place tree)
  lawful_meant g place (number at n) = lawful_refuses _
  lawful_meant g place (text at bytes) = lawful_refuses _
  lawful_meant g place (control at letter) = lawful_refuses _
  lawful_meant g place (nil at) = lawful_refuses _
  lawful_meant g place (set at listed) = lawful_refuses _
  lawful_meant g place (call at callee given) = lawful_refuses _
  lawful_meant g place (signed mark a) = lawful_refuses _
  lawful_meant g place (negated at a) = lawful_refuses _
  lawful_meant g place (combined at op a b) = lawful_refuses _
  lawful_meant g place (name here word) = lawful_owner g here.place word
  lawful_meant g place (field here a word) = lawful_part (meant g place a) _ (lawful_meant g place a) (λ x. lawful_selected_from g.types.types here.place x word)
  lawful_meant g place (index here a i) =
      lawful_parts (meant g place a) (judged g i) _ (lawful_meant g place a) (lawful g i) (λ x c. lawful_indexed g.types.types here.place false x (operand c))
  lawful_meant g place (followed at a) = lawful_part (meant g place a) _ (lawful_meant g place a) (λ x. lawful_followed g.types.types at x)

  lawful_sole : (g : Environment) (place : Place) (all : Operands) → Lawful (sole_meant g place all)
  lawful_sole g place no_operands = lawful_refuses _
  lawful_sole g place (and_operand (plain a) no_operands) = lawful_meant g place a
  lawful_sole g place (and_operand (plain a) (and_operand b rest)) = lawful_refuses _
  lawful_sole g place (and_operand (wide a width) rest) = lawful_refuses _

  lawful_spans : (g : Environment) (before : List Span) (all : Elements) → Lawful (spans_judged g before all)
  lawful_spans g before no_elements = lawful_makes _
  lawful_spans g before (and_element one rest) = lawful_part (span_judged g one) _ (lawful_span g one) (λ x. lawful_spans g (before ++ x ∷ []) rest)

  lawful_span : (g : Environment) (one : Listed) → Lawful (span_judged g one)
  lawful_span g (single a) = lawful_part (judged g a) _ (lawful g a) (λ c. lawful_makes _)
  lawful_span g (span a b) = lawful_parts (judged g a) (judged g b) _ (lawful g a) (lawful g b) (λ c d. lawful_makes _)

  lawful_operands : (g : Environment) (place : Place) (before : List Constant) (all : Operands) → Lawful (operands_judged g place before all)
  lawful_operands g place before no_operands = lawful_makes _
  lawful_operands g place before (and_operand one rest) =
      lawful_part (operand_judged g place one) _ (lawful_operand g place one) (λ x. lawful_operands g place (before ++ x ∷ []) rest)

  lawful_operand : (g : Environment) (place : Place) (one : Operand) → Lawful (operand_judged g place one)
  lawful_operand g place (plain a) = lawful g a
  lawful_operand g place (wide a width) = lawful_parts (judged g a) (judged g width) _ (lawful g a) (lawful g width) (λ x w. lawful_refuses _)

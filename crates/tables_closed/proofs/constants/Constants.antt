-- Constants have types below the bounds of a scope.
use Rattle.std.proofs.Common.{◌≡◌, ℕ, ◌+◌, ◌<◌, ◌≤◌, ℤ, pos, ◌+ℤ◌, ◌-ℤ◌, Bool, true, false, cond, List, [], ◌∷◌, ◌++◌, length, Option, Some, None, sym, subst, arith}
use Rattle.std.specs.Prelude.{◌==◌, min}
use Rattle.std.specs.Ordering.{int_eq}
use Rattle.tp_check_decl.specs.type_layout.declared.definitions.TypeId.{TypeId}
use Rattle.tp_check_decl.specs.type_layout.declared.definitions.TypeDef.{TypeDef}
use Rattle.tp_check_decl.specs.type_layout.declared.definitions.Host.TheVariants as host
use Rattle.tp_check_decl.specs.type_layout.declared.texts.Place.{Place}
use Rattle.tp_check_decl.specs.type_layout.Layouts.{bounds_at}
use Rattle.tp_check_decl.specs.tp_lexer.declared.token.Feature.{Feature}
use Rattle.tp_check_decl.specs.tp_lexer.left_out_names.Names.{feature_of}
use Rattle.tp_check_decl.specs.syntax_tree.declared.expression.PlacedSign.{PlacedSign}
use Rattle.tp_check_decl.specs.typed_tree.declared.expressions.Value.{Value}
use Rattle.tp_check_decl.specs.typed_tree.declared.expressions.Value.TheVariants as value
use Rattle.tp_check_decl.specs.typed_tree.Expressions.{Expression, Load}
use Rattle.tp_check_decl.specs.typed_tree.declared.expressions.UnaryOp.{UnaryOp}
use Rattle.tp_check_decl.specs.typed_tree.declared.expressions.BinaryOp.{BinaryOp}
use Rattle.tp_check_decl.specs.scopes.declared.entries.Entry.{Entry}
use Rattle.tp_check_decl.specs.scopes.declared.entries.Entry.TheVariants as entry
use Rattle.tp_check_decl.specs.scopes.Predeclared.{type_id}
use Rattle.tp_check_decl.specs.scopes.Environment.{Environment, Meaning, named, member, find}
use Rattle.tp_check_decl.specs.common_values.declared.ordinals.IntegerType.TheVariants.{Byte, LongInt}
use Rattle.tp_check_decl.specs.common_values.Ordinals.{kept}
use Rattle.tp_check_decl.specs.common_values.Bits.{complement, absolute, hi, lo, swapped}
use Rattle.tp_check_decl.specs.common_values.Strings.{joined}
use Rattle.tp_check_decl.specs.typing_rules.declared.faults.Rule.TheVariants as rules
use Rattle.tp_check_decl.specs.typing_rules.declared.sorts.SetBase.{SetBase}
use Rattle.tp_check_decl.specs.typing_rules.declared.sorts.SetBase.TheVariants as over
use Rattle.tp_check_decl.specs.typing_rules.declared.sorts.Sort.{Sort}
use Rattle.tp_check_decl.specs.typing_rules.declared.sorts.Sort.TheVariants as sort
use Rattle.tp_check_decl.specs.typing_rules.Faults.{broken}
use Rattle.tp_check_decl.specs.typing_rules.Judgements.{Judgement, makes, refuses, parts}
use Rattle.tp_check_decl.specs.typing_rules.Sorts.{integer, word, long_int, only, is_within, number_type, sort_of_type, sort_of_constant}
use Rattle.tp_check_decl.specs.typing_rules.Operators.{sign_value}
use Rattle.tp_check_decl.specs.typing_rules.Wanted.{constant_type}
use Rattle.tp_check_decl.specs.typing_rules.Plans.{operation_of, is_integer, is_text, set_type}
use Rattle.tp_check_decl.specs.call_rules.set_rules.Bases.{is_set_of, set_in, set_over}
use Rattle.tp_check_decl.specs.call_rules.standard_rules.Sizes.{has_class}
use Rattle.tp_check_decl.specs.syntax_tree.expression_tree.Trees as tree
use Rattle.tp_check_decl.specs.syntax_tree.expression_tree.Trees.{Tree, Operand, Operands, of_sign, sole_designator}
use Rattle.tp_check_decl.specs.constant_checker.declared.constant_expressions.constants.Constant.{Constant}
use Rattle.tp_check_decl.specs.constant_checker.constant_expressions.Values as values
use Rattle.tp_check_decl.specs.constant_checker.constant_expressions.Values.{of_value, number_of, bytes_of, taken, computed, compares, base_in, of_sort, numbered, combined_values, combined_by}
use Rattle.tp_check_decl.specs.constant_checker.constant_expressions.Functions.{functions, function_in, function_of, short_type, bounded, stepped, applied, chosen, function_entry, function_meant, function_at, function_named, called_with}
use Rattle.tp_check_decl.specs.constant_checker.declared.constant_expressions.constructors.Span.{Span}
use Rattle.tp_check_decl.specs.constant_checker.constant_expressions.Constructors.{first_sort, typed_set, set_by, set_of}
use Rattle.tp_check_decl.specs.constant_checker.constant_expressions.Sizes.{asks_size, size_constant, size_held, size_by, sized_entry, sized_meaning, sized_name, sized, size_called}
use Rattle.tp_check_decl.specs.constant_checker.constant_expressions.Constants.{of_text, of_control, of_entry, of_meaning, of_name, marked, judged, sole_meant, operands_judged, operand_judged}
use Rattle.tables_closed.specs.constants.Bounds.{AreBelow, in_entry, IsBoundOf}
use Rattle.tables_closed.proofs.constants.Below.{either_way}
use Rattle.tables_closed.proofs.constants.Names.{OfMeaning, of_found}

-- what is said of each that a judgement holds
abbrev IsEach : {C : Type 0} → Judgement C → (C → Type 0) → Type 0
IsEach {C} j Q = (c : C) → j.holds c → Q c

made_each : {C : Type 0} (Q : C → Type 0) (one : C) → Q one → IsEach (makes one) Q
made_each Q one h = λ c e. subst Q (sym e) h

-- and of what stands in each row of a table
abbrev AllRows : {A : Type 0} → (A → Type 0) → List (ℕ × A) → Type 0
AllRows P [] = Unit {0}
AllRows P (row ∷ rows) = P row.1 × AllRows P rows

module _ (n : ℕ) where
  -- a constant of a type below the bound
  abbrev IsBelow : Constant → Type 0
  IsBelow c = c.ty.0 < n

  same_constant : (c d : Constant) → c ≡ d → IsBelow d → IsBelow c
  same_constant c d e h = subst IsBelow (sym e) h

  abbrev AllBelow : List Constant → Type 0
  AllBelow [] = Unit {0}
  AllBelow (c ∷ cs) = IsBelow c × AllBelow cs

  all_with : (cs : List Constant) (c : Constant) → AllBelow cs → IsBelow c → AllBelow (cs ++ c ∷ [])
  all_with [] c h low = (low, tt)
  all_with (one ∷ cs) c h low = (h.0, all_with cs c h.1 low)

  abbrev TypeBelow : Option TypeId → Type 0
  TypeBelow None = Unit {0}
  TypeBelow (Some ty) = ty.0 < n

  module _ (system : 11 ≤ n) where
    -- ---- numbers, truths and texts

    holding_below : (b c : Bool) → (cond b integer (cond c word long_int)).0 < n
    holding_below true c = omega arith
    holding_below false true = omega arith
    holding_below false false = omega arith

    number_below : (m : ℤ) → (number_type m).0 < n
    number_below m = holding_below (is_within host.Integer (only m)) (is_within host.Word (only m))

    text_below : (bytes : List ℕ) → IsBelow (of_text bytes)
    text_below [] = omega arith
    text_below (byte ∷ []) = omega arith
    text_below (byte ∷ other ∷ rest) = omega arith

    control_below : (bytes : List ℕ) → IsBelow (of_control bytes)
    control_below [] = omega arith
    control_below (letter ∷ []) = omega arith
    control_below (letter ∷ other ∷ rest) = omega arith

    sorted_below : (b : Bool) (i t : ℤ) → IsBelow (cond b (values.integer i) (values.truth t))
    sorted_below true i t = number_below i
    sorted_below false i t = omega arith

    -- ---- names

    constant_type_below : (ty : TypeId) (m : ℤ) (s : Sort) → ty.0 < n → (constant_type ty m s).0 < n
    constant_type_below ty m (sort.Integer r) h = number_below m
    constant_type_below ty m s h = h

    value_below : (types : List TypeDef) (ty : TypeId) (v : Value) → ty.0 < n → IsBelow (of_value types ty v)
    value_below types ty (value.Number m) h = constant_type_below ty m (sort_of_type types ty) h
    value_below types ty v h = h

    entry_below : (types : List TypeDef) (place : Place) (one : Entry) (c : Constant) → AreBelow n (in_entry one) → (of_entry types place one).holds c → IsBelow c
    entry_below types place (entry.Const ty v) c h e = same_constant c (of_value types ty v) e (value_below types ty v h.0)
    entry_below types place (entry.Ty ty) c h e = absurd e
    entry_below types place (entry.Var unit level number ty) c h e = absurd e
    entry_below types place (entry.Code routine level header far) c h e = absurd e
    entry_below types place (entry.Std number) c h e = absurd e

    meaning_below : (types : List TypeDef) (place : Place) (feature : Option Feature) (one : Option Meaning) (c : Constant) → OfMeaning n one
        → (of_meaning types place feature one).holds c → IsBelow c
    meaning_below types place feature None c h e = absurd e
    meaning_below types place feature (Some (named number one)) c h e = entry_below types place one c h e
    meaning_below types place feature (Some (member number one)) c h e = absurd e

    -- ---- operators

    base_below : (base : SetBase) (x y : TypeId) → x.0 < n → y.0 < n → (set_type base (Some x) (Some y)).0 < n
    base_below over.Any x y h k = k
    base_below base x y h k = h

    numbered_below : (place : Place) (s : Sort) (m : Option ℤ) (c : Constant) → (numbered place s m).holds c → IsBelow c
    numbered_below place s None c e = absurd e
    numbered_below place s (Some m) c e = same_constant c (of_sort s m) e (sorted_below (is_integer s) m m)

    values_below : (place : Place) (one : BinaryOp) (s : Sort) (base : Option SetBase) (a b c : Constant) → IsBelow a → IsBelow b
        → (combined_values place one s base a b).holds c → IsBelow c
    values_below place one s (Some base) a b c h k e = same_constant c (values.sets_combined one base a b) e (base_below base a.ty b.ty h k)
    values_below place one s None a b c h k e =
        let all = values.text (joined (bytes_of a.value) (bytes_of b.value)) in
        let m = computed one (taken s (number_of a.value)) (taken s (number_of b.value)) in
        either_way (is_text s) (makes all) (numbered place s m) c (IsBelow c)
        (λ same. same_constant c all same (omega arith)) (λ held. numbered_below place s m c held) e

    by_below : (place : Place) (one : BinaryOp) (s t : Sort) (a b c : Constant) → IsBelow a → IsBelow b → (combined_by place one s t a b).holds c → IsBelow c
    unfolding values.allowed
    by_below place one s t a b c h k e =
        let holds = values.truth (cond (values.related (operation_of one) one s a.value b.value) (pos 1) (pos 0)) in
        either_way (compares (operation_of one)) (makes holds) (combined_values place one s (base_in s) a b)
        c (IsBelow c) (λ same. same_constant c holds same (omega arith)) (λ held. values_below place one s (base_in s) a b c h k held) e.made

    combined_below : (types : List TypeDef) (place : Place) (one : BinaryOp) (a b c : Constant) → IsBelow a → IsBelow b → (values.combined types place one a b).holds c → IsBelow c
    unfolding values.combined
    combined_below types place one a b c h k e = by_below place one (sort_of_constant types a.ty a.value) (sort_of_constant types b.ty b.value) a b c h k e

    signed_below : (types : List TypeDef) (place : Place) (one : UnaryOp) (a c : Constant) → (values.signed types place one a).holds c → IsBelow c
    unfolding values.signed
    signed_below types place one a c e = subst IsBelow (sym e.made) (number_below (sign_value one (number_of a.value)))

    negated_below : (types : List TypeDef) (place : Place) (a c : Constant) → (values.negated types place a).holds c → IsBelow c
    unfolding values.negated
    negated_below types place a c e = subst IsBelow (sym e.made)
        (sorted_below (is_integer (sort_of_type types a.ty)) (complement LongInt (number_of a.value)) (cond (int_eq (number_of a.value) (pos 0)) (pos 1) (pos 0)))

    marked_below : (types : List TypeDef) (mark : Option PlacedSign) (a c : Constant) → IsBelow a → (marked types mark a).holds c → IsBelow c
    marked_below types None a c h e = same_constant c a e h
    marked_below types (Some mark) a c h e = signed_below types mark.position.place (of_sign mark.sign) a c e

    -- ---- functions

    stepped_below : (place : Place) (ty : TypeId) (s : Sort) (bounds : ℤ × ℤ) (m : ℤ) (c : Constant) → ty.0 < n → (stepped place ty s bounds m).holds c → IsBelow c
    stepped_below place ty s bounds m c h e =
        either_way (is_integer s) (makes (values.integer (kept LongInt m))) (bounded place ty bounds (kept Byte m)) c (IsBelow c)
        (λ same. same_constant c (values.integer (kept LongInt m)) same (number_below (kept LongInt m)))
        (λ held. subst IsBelow (sym held.made) h) e

    -- what a function gives of an argument whose type is below
    abbrev Applies : (place : Place) (number : ℕ) → Type 0
    Applies place number =
        IsEach (chosen place number (function_of number))
        (λ f. (place : Place) (types : List TypeDef) (ty : TypeId) (s : Sort) (v : Value) (c : Constant) → ty.0 < n → (applied types place f.function ty s v).holds c → IsBelow c)

    chosen_each : (place : Place) (number : ℕ) (b : Bool) (one : _) (rest : _) (Q : _) → IsEach (chosen place number (Some one)) Q → IsEach (chosen place number rest) Q
        → IsEach (chosen place number (cond b (Some one) rest)) Q
    chosen_each place number true one rest Q h k = h
    chosen_each place number false one rest Q h k = k

    rows_each : (place : Place) (number : ℕ) (rows : _) (Q : _) → AllRows (λ one. IsEach (chosen place number (Some one)) Q) rows → IsEach (chosen place number (function_in rows number)) Q
    rows_each place number [] Q h = λ f e. absurd e
    rows_each place number (row ∷ rows) Q h = chosen_each place number (row.0 == number) row.1 (function_in rows number) Q h.0 (rows_each place number rows Q h.1)

    applies : (place : Place) (number : ℕ) → Applies place number
    unfolding functions
    applies place number =
        rows_each place number functions _ (
          made_each _ _ (λ at types ty s v c h e. subst IsBelow (sym e) (number_below (absolute LongInt (number_of v)))),
          (
            made_each _ _ (λ at types ty s v c h e. subst IsBelow (sym e) (omega arith)),
            (
              made_each _ _ (λ at types ty s v c h e. subst IsBelow (sym e) (number_below (number_of v))),
              (
                made_each _ _ (λ at types ty s v c h e. subst IsBelow (sym e) (omega arith)),
                (
                  made_each _ _ (λ at types ty s v c h e. stepped_below at ty s (bounds_at types ty) (number_of v +ℤ pos 1) c h e),
                  (
                    made_each _ _ (λ at types ty s v c h e. stepped_below at ty s (bounds_at types ty) (number_of v -ℤ pos 1) c h e),
                    (
                      made_each _ _ (λ at types ty s v c h e. subst IsBelow (sym e) (number_below (pos (hi (number_of v))))),
                      (
                        made_each _ _ (λ at types ty s v c h e. subst IsBelow (sym e) (number_below (pos (lo (number_of v))))),
                        (
                          made_each _ _ (λ at types ty s v c h e. subst IsBelow (sym e) (number_below (swapped (short_type (number_of v)) (number_of v)))),
                          (
                            made_each _ _ (λ at types ty s v c h e. subst IsBelow (sym e) (omega arith)),
                            (made_each _ _ (λ at types ty s v c h e. subst IsBelow (sym e) (number_below (pos (min (length (bytes_of v)) 255)))), tt),
                          ),
                        ),
                      ),
                    ),
                  ),
                ),
              ),
            ),
          ),
        )

    entry_each : (place : Place) (one : Entry) (Q : _) → ((number : ℕ) → IsEach (chosen place number (function_of number)) Q) → IsEach (function_entry place one) Q
    entry_each place (entry.Std number) Q h = h number
    entry_each place one Q h = λ f e. absurd e

    meaning_each : (place : Place) (feature : Option Feature) (one : Option Meaning) (Q : _) → ((number : ℕ) → IsEach (chosen place number (function_of number)) Q)
        → IsEach (function_meant place feature one) Q
    meaning_each place feature None Q h = λ f e. absurd e
    meaning_each place feature (Some (named number one)) Q h = entry_each place one Q h
    meaning_each place feature (Some (member number one)) Q h = λ f e. absurd e

    at_each : (g : Environment) (place : Place) (word : List ℕ) (Q : _) → ((number : ℕ) → IsEach (chosen place number (function_of number)) Q) → IsEach (function_at g place word) Q
    unfolding function_at
    at_each g place word Q h = meaning_each place (feature_of word) (find g word) Q h

    function_each : (g : Environment) (place : Place) (callee : Tree) (Q : _) → ((at : Place) (number : ℕ) → IsEach (chosen at number (function_of number)) Q) → IsEach (function_named g place callee) Q
    function_each g place (tree.name here word) Q h = at_each g here.place word Q (h here.place)
    function_each g place callee Q h = λ f e. absurd e

    called_below : (g : Environment) (types : List TypeDef) (place : Place) (callee : Tree) (f : _) (xs : List Constant) (c : Constant) → (function_named g place callee).holds f → AllBelow xs
        → (called_with types place f xs).holds c → IsBelow c
    called_below g types place callee f [] c held h e = absurd e
    called_below g types place callee f (x ∷ []) c held h e =
        function_each g place callee
        (λ f. (place : Place) (types : List TypeDef) (ty : TypeId) (s : Sort) (v : Value) (c : Constant) → ty.0 < n → (applied types place f.function ty s v).holds c → IsBelow c)
        applies f held place types x.ty (sort_of_type types x.ty) x.value c h.0 e.made
    called_below g types place callee f (x ∷ y ∷ rest) c held h e = absurd e

    -- ---- SizeOf

    size_below : (types : List TypeDef) (ty : TypeId) (c : Constant) → c ≡ size_constant types ty → IsBelow c
    size_below types ty c e = same_constant c (size_constant types ty) e (omega arith)

    size_held_below : (types : List TypeDef) (place : Place) (ty : TypeId) (c : Constant) → (size_held types place ty).holds c → IsBelow c
    size_held_below types place ty c e =
        either_way (has_class types ty) (refuses (broken place rules.Constant)) (makes (size_constant types ty)) c (IsBelow c)
        (λ none. absurd none) (λ same. size_below types ty c same) e

    size_by_below : (types : List TypeDef) (place : Place) (one : Expression) (c : Constant) → (size_by types place one).holds c → IsBelow c
    size_by_below types place (Load ty at) c e = size_held_below types place ty c e
    size_by_below types place one c e = absurd e

    sized_entry_below : (types : List TypeDef) (place : Place) (one : Entry) (c : Constant) → (sized_entry types place one).holds c → IsBelow c
    sized_entry_below types place (entry.Const ty v) c e = absurd e
    sized_entry_below types place (entry.Ty ty) c e = size_below types ty c e
    sized_entry_below types place (entry.Var unit level number ty) c e = size_held_below types place ty c e
    sized_entry_below types place (entry.Code routine level header far) c e = absurd e
    sized_entry_below types place (entry.Std number) c e = absurd e

    sized_meaning_below : (types : List TypeDef) (place at : Place) (word : List ℕ) (feature : Option Feature) (one : Option Meaning) (c : Constant)
        → (sized_meaning types place at word feature one).holds c → IsBelow c
    sized_meaning_below types place at word feature None c e = absurd e
    sized_meaning_below types place at word feature (Some (named number one)) c e = sized_entry_below types place one c e
    sized_meaning_below types place at word feature (Some (member number one)) c e = size_by_below types place e.part c e.made

    sized_name_below : (g : Environment) (place at : Place) (word : List ℕ) (c : Constant) → (sized_name g place at word).holds c → IsBelow c
    unfolding sized_name
    sized_name_below g place at word c e = sized_meaning_below g.types.types place at word (feature_of word) (find g word) c e

    sized_below : (g : Environment) (place : Place) (one : Tree) (meant : Judgement Expression) (c : Constant) → (sized g place one meant).holds c → IsBelow c
    sized_below g place (tree.name here word) meant c e = sized_name_below g place here.place word c e
    sized_below g place one meant c e = size_by_below g.types.types place e.part c e.made

    size_called_below : (g : Environment) (place : Place) (one : Option Tree) (meant : Judgement Expression) (given : Judgement (List Constant)) (c : Constant)
        → (size_called g place one meant given).holds c → IsBelow c
    size_called_below g place (Some one) meant given c e = sized_below g place one meant c e
    size_called_below g place None meant given c e = absurd e.made

    -- ---- set constructors

    module _ (types : List TypeDef) (table : length types ≤ n) where
      chosen_below : (b : Bool) (ty : TypeId) (other : Option TypeId) → ty.0 < n → TypeBelow other → TypeBelow (cond b (Some ty) other)
      chosen_below true ty other h k = h
      chosen_below false ty other h k = k

      set_in_below : (ty : TypeId) (number : ℕ) (rest : List TypeDef) → number + length rest ≤ n → TypeBelow (set_in ty number rest)
      set_in_below ty number [] h = tt
      set_in_below ty number (one ∷ rest) h =
          chosen_below (is_set_of ty one) (type_id number) (set_in ty (number + 1) rest) (omega arith) (set_in_below ty (number + 1) rest (omega arith))

      set_over_below : (s : Sort) → TypeBelow (set_over types s)
      set_over_below (sort.Integer r) = omega arith
      set_over_below sort.Boolean = omega arith
      set_over_below sort.Char = omega arith
      set_over_below (sort.Enumeration ty) = set_in_below ty 0 types (omega arith)
      set_over_below s = tt

      typed_below : (place : Place) (ty : Option TypeId) (spans : List Span) (c : Constant) → TypeBelow ty → (typed_set place ty spans).holds c → IsBelow c
      typed_below place None spans c h e = absurd e
      typed_below place (Some ty) spans c h e = subst IsBelow (sym e) h

      set_by_below : (place : Place) (s : Option Sort) (spans : List Span) (c : Constant) → (set_by types place s spans).holds c → IsBelow c
      set_by_below place None spans c e = subst IsBelow (sym e) (omega arith)
      set_by_below place (Some s) spans c e = typed_below place (set_over types s) spans c (set_over_below s) e.made

      set_below : (place : Place) (spans : List Span) (c : Constant) → (set_of types place spans).holds c → IsBelow c
      unfolding set_of
      set_below place spans c e = set_by_below place (first_sort spans) spans c e

  -- ---- expressions

  module _ (g : Environment) (bound : IsBoundOf n g) where
    name_below : (place : Place) (word : List ℕ) (c : Constant) → (of_name g place word).holds c → IsBelow c
    unfolding of_name
    name_below place word c e = meaning_below bound.system g.types.types place (feature_of word) (find g word) c (of_found n g word bound) e

    mutual
      pub constant_below : (tree : Tree) (c : Constant) → (judged g tree).holds c → c.ty.0 < n
      constant_below (tree.number place m) c e = subst IsBelow (sym e) (number_below bound.system m)
      constant_below (tree.text place bytes) c e = subst IsBelow (sym e) (text_below bound.system bytes)
      constant_below (tree.control place letter) c e = subst IsBelow (sym e) (control_below bound.system letter)
      constant_below (tree.nil place) c e = absurd e
      constant_below (tree.set here all) c e = set_below bound.system g.types.types bound.table here.place e.part c e.made
      constant_below (tree.call here callee given) c e =
          either_way (asks_size g callee) (size_called g here.place (sole_designator given) (sole_meant g here.place given) (operands_judged g here.place [] given))
          (parts (function_named g here.place callee) (operands_judged g here.place [] given) (λ f xs. called_with g.types.types here.place f xs)) c (IsBelow c)
          (λ sized_one. size_called_below bound.system g here.place (sole_designator given) (sole_meant g here.place given) (operands_judged g here.place [] given) c sized_one)
          (λ held. called_below bound.system g g.types.types here.place callee held.left held.right c held.left_holds (operands_below here.place [] given held.right tt held.right_holds) held.made) e
      constant_below (tree.signed mark a) c e = marked_below bound.system g.types.types mark e.part c (constant_below a e.part e.holds) e.made
      constant_below (tree.negated place a) c e = negated_below bound.system g.types.types place e.part c e.made
      constant_below (tree.combined here op a b) c e =
          combined_below bound.system g.types.types here.place op e.left e.right c (constant_below a e.left e.left_holds) (constant_below b e.right e.right_holds) e.made
      constant_below (tree.name here word) c e = name_below here.place word c e
      constant_below (tree.field here a one) c e = absurd e.made
      constant_below (tree.index here a i) c e = absurd e.made
      constant_below (tree.followed place a) c e = absurd e.made

      operands_below : (place : Place) (before : List Constant) (all : Operands) (made : List Constant) → AllBelow before → (operands_judged g place before all).holds made → AllBelow made
      operands_below place before tree.no_operands made h e = subst AllBelow (sym e) h
      operands_below place before (tree.and_operand one rest) made h e =
          operands_below place (before ++ e.part ∷ []) rest made (all_with before e.part h (operand_below place one e.part e.holds)) e.made

      operand_below : (place : Place) (one : Operand) (c : Constant) → (operand_judged g place one).holds c → IsBelow c
      operand_below place (tree.plain a) c e = constant_below a c e
      operand_below place (tree.wide a width) c e = absurd e.made

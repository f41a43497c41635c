-- Statements are judged lawfully.
use Rattle.std.proofs.Common.{ℕ, ℤ, ◌≤ℤ◌, int_le, ◌&&◌, Bool, List, [], ◌∷◌, ◌++◌, Option, Some, None, Decides}
use Rattle.std.proofs.lemmas.Bool.Decides.{Decides-and}
use Rattle.type_layout.specs.declared.definitions.TypeId.{TypeId}
use Rattle.type_layout.specs.declared.definitions.RoutineId.{RoutineId}
use Rattle.type_layout.specs.declared.definitions.Header.{Header}
use Rattle.type_layout.specs.declared.definitions.Method.{Method}
use Rattle.type_layout.specs.declared.texts.Place.{Place}
use Rattle.tp_lexer.specs.declared.token.Feature.{Feature}
use Rattle.tp_lexer.specs.left_out_names.Names.{feature_of}
use Rattle.pascal_grammar.specs.declared.lexeme.Position.{Position}
use Rattle.syntax_tree.specs.expression_tree.Trees.{Tree, Operand, Operands, plain, wide, no_operands, and_operand, number, text, control, nil, set, call, signed, negated, combined, name, field, index, followed}
use Rattle.syntax_tree.specs.statement_tree.Trees.{Label, alone, from_to, Task, Tasks, Branches, empty, assignment, run, compound, choice, selection, while_loop, repeat_loop, for_loop, opened, no_tasks, and_task, no_branches, and_branch}
use Rattle.syntax_tree.specs.statement_tree.Places.{place_of}
use Rattle.typed_tree.specs.declared.expressions.Variable.{Variable}
use Rattle.typed_tree.specs.declared.statements.LabelRange.{LabelRange}
use Rattle.typed_tree.specs.Expressions.{Expression, type_of}
use Rattle.typed_tree.specs.Statements.{Statement, Written, Run, Halt, Case, With}
use Rattle.scopes.specs.declared.entries.Entry.{Entry}
use Rattle.scopes.specs.declared.entries.Entry.TheVariants as entry
use Rattle.scopes.specs.declared.entries.BlockKind.{BlockKind}
use Rattle.scopes.specs.declared.entries.BlockKind.TheVariants as block
use Rattle.scopes.specs.declared.members.Member.{Member}
use Rattle.scopes.specs.Environment.{Environment, Meaning, named, member, find, kind_of}
use Rattle.typed_tree.specs.type_fits.Fits.{definition}
use Rattle.constant_checker.specs.constant_expressions.Constants as constants
use Rattle.constant_checker.specs.constant_expressions.Values.{number_of}
use Rattle.constant_checker.proofs.constant_expressions.ConstantLaws as constant
use Rattle.typing_rules.specs.declared.faults.Rule.{Rule}
use Rattle.typing_rules.specs.declared.faults.Rule.TheVariants as rules
use Rattle.typing_rules.specs.declared.sorts.Sort.{Sort}
use Rattle.typing_rules.specs.Faults.{broken}
use Rattle.typing_rules.specs.Judgements.{Judgement, makes, refuses, rule, part, parts}
use Rattle.typing_rules.specs.Sorts.{sort_of_type, sort_of}
use Rattle.typing_rules.specs.Plans.{IsBoolean, is_boolean, IsInteger, is_integer, AreOfOneHost, are_of_one_host}
use Rattle.typing_rules.specs.Wanted.{stored_of}
use Rattle.typing_rules.specs.Assignments.{IsAssignable, is_assignable, assigned_by}
use Rattle.typing_rules.specs.Laws.{Lawful}
use Rattle.typing_rules.proofs.JudgementLaws.{lawful_makes, lawful_refuses, lawful_rule, lawful_either, lawful_part, lawful_parts}
use Rattle.typing_rules.proofs.PlanLaws.{tells_integer, tells_one_host}
use Rattle.typing_rules.proofs.AssignmentLaws.{tells_assignable}
use Rattle.call_rules.specs.Casts.{IsOrdinal, is_ordinal}
use Rattle.call_rules.proofs.CallLaws.{tells_ordinal, lawful_performed}
use Rattle.call_rules.specs.method_rules.Methods.{method_in, routine_in}
use Rattle.call_rules.specs.method_rules.Calls.{performed_on}
use Rattle.call_rules.proofs.method_rules.MethodLaws as methods
use Rattle.call_rules.specs.procedural_rules.Through.{performed_through}
use Rattle.call_rules.proofs.procedural_rules.ProceduralLaws.{lawful_performed_through}
use Rattle.call_rules.specs.allocation_rules.Allocations.{destructor_of, unmade}
use Rattle.call_rules.proofs.allocation_rules.AllocationLaws.{lawful_destructor, lawful_unmade}
use Rattle.tp_check_expr.specs.declared.names.Purpose.{Purpose}
use Rattle.tp_check_expr.specs.declared.names.Purpose.TheVariants as purpose
use Rattle.tp_check_expr.specs.Names.{variable, purpose_for}
use Rattle.tp_check_expr.specs.Calls.{Callable, declared, method, through, maker, params_of_entry}
use Rattle.tp_check_expr.specs.Typed.{judged_as, judged, callable, all_given, made_by}
use Rattle.tp_check_expr.proofs.TypedLaws as expression
use Rattle.tp_check_stmt.specs.declared.loops.Counter.{Counter}
use Rattle.tp_check_stmt.specs.declared.standard.StandardStatement.{StandardStatement}
use Rattle.tp_check_stmt.specs.declared.standard.StandardStatement.TheVariants as standard
use Rattle.tp_check_stmt.specs.Lists.{each}
use Rattle.tp_check_stmt.specs.Places.{Spot, spot_of, present}
use Rattle.tp_check_stmt.specs.Asked.{such, condition, selector, IsWritable, is_writable, written_value, width}
use Rattle.tp_check_stmt.specs.Assignments.{held_target, is_inside, result_spot, result_target, method_result, is_numbered, method_target, member_target, meant_target, target, assigned_to}
use Rattle.call_rules.specs.procedure_rules.Procedures.{standard_performed, told}
use Rattle.call_rules.proofs.procedure_rules.ProcedureLaws as procedure
use Rattle.call_rules.proofs.procedure_rules.ProcedureLaws.{lawful_told}
use Rattle.tp_check_stmt.specs.Arguments.{sized, NamedCall, named_call}
use Rattle.tp_check_stmt.specs.Standard.{item, written, taken_from, taken_one, taken, values, halted, left, told_of, misgiven, told_two, are_two, telling, proceeding, made_to, creating, ended_with, ended_by, ending, is_creating, Pair, plain_pair, managed, managing, standard_of, standard_run}
use Rattle.tp_check_stmt.specs.Calls.{run_node, performed_entry, run_entry, run_target, run_of}
use Rattle.tp_check_stmt.specs.Labels.{from, label_value, label_range, IsNew, is_new, label_place, new_label, labelled}
use Rattle.tp_check_stmt.specs.Loops.{IsNear, is_near, HasOrder, has_order, counter_of, counter_entry, counter_meant, counter, whole, bound_by, bound, Counted, counted_from, counted}
use Rattle.tp_check_stmt.specs.Typed.{Armed, arms_of, block_of, blocked, HasMembers, has_members, opened_spot, held, within, stated, chosen, inside, assigning, listed, branched}
use Rattle.tp_check_stmt.proofs.TestLaws.{tells_boolean, tells_writable, tells_order, tells_members, tells_rising, tells_new, tells_near}
use Rattle.tp_check_stmt.proofs.PartLaws.{lawful_present, lawful_each, lawful_three, lawful_assigned_to, lawful_from, lawful_halted, lawful_left, lawful_run_node, lawful_entry}

module _ (g : Environment) where
  lawful_such : (one : Tree) (broke : Rule) (test : Sort → Bool) (Asked : Sort → Type 0) → ((s : Sort) → Decides (test s) (Asked s)) → Lawful (such g one broke test Asked)
  lawful_such one broke test Asked tells =
      lawful_part (judged g one) (λ e. rule (broken (place_of one) broke) (test (sort_of g.types.types e)) (Asked (sort_of g.types.types e)) e) (expression.lawful g one)
      (λ e. lawful_rule (broken (place_of one) broke) (test (sort_of g.types.types e)) (Asked (sort_of g.types.types e)) e (tells (sort_of g.types.types e)))

  lawful_condition : (one : Tree) → Lawful (condition g one)
  lawful_condition one = lawful_such one rules.Conditional is_boolean IsBoolean tells_boolean

  lawful_selector : (one : Tree) → Lawful (selector g one)
  lawful_selector one = lawful_such one rules.Labelled is_ordinal IsOrdinal tells_ordinal

  lawful_value : (one : Tree) → Lawful (written_value g one)
  lawful_value one = lawful_such one rules.Written is_writable IsWritable tells_writable

  lawful_width : (one : Tree) → Lawful (width g one)
  lawful_width one = lawful_such one rules.Written is_integer IsInteger tells_integer

  -- ---- assignments

  lawful_held_target : (one : Tree) → Lawful (held_target g one)
  lawful_held_target one =
      lawful_part (judged_as g purpose.Variable one) (λ e. present (broken (place_of one) rules.Target) (spot_of e)) (expression.lawful_judged g purpose.Variable one)
      (λ e. lawful_present (broken (place_of one) rules.Target) (spot_of e))

  lawful_result : (place : Place) (routine : RoutineId) (level : ℕ) (header : Header) (result : Option TypeId) → Lawful (result_target g place routine level header result)
  lawful_result place routine level header None = lawful_refuses _
  lawful_result place routine level header (Some ty) =
      lawful_either (is_inside g routine) (makes (result_spot g level header ty)) (refuses (broken place rules.Target)) (lawful_makes _) (lawful_refuses _)

  lawful_method_result : (place : Place) (header : Header) (result : Option TypeId) → Lawful (method_result g place header result)
  lawful_method_result place header None = lawful_refuses _
  lawful_method_result place header (Some ty) = lawful_makes _

  lawful_method_target : (place : Place) (kind : Option BlockKind) (one : Option Method) → Lawful (method_target g place kind one)
  lawful_method_target place None one = lawful_refuses _
  lawful_method_target place (Some block.Part) one = lawful_refuses _
  lawful_method_target place (Some (block.With ty)) one = lawful_refuses _
  lawful_method_target place (Some (block.Routine n owner)) None = lawful_refuses _
  lawful_method_target place (Some (block.Routine n owner)) (Some one) =
      lawful_either (is_numbered n (routine_in g one.routine)) (method_result g place one.header one.header.result) (refuses (broken place rules.Target))
      (lawful_method_result place one.header one.header.result) (lawful_refuses _)

  lawful_member_target : (place : Place) (one : Tree) (n : ℕ) (m : Member) (word : List ℕ) → Lawful (member_target g place one n m word)
  lawful_member_target place one n m word =
      lawful_either m.method (method_target g place (kind_of g n) (method_in g.types.types m.class word)) (held_target g one)
      (lawful_method_target place (kind_of g n) (method_in g.types.types m.class word)) (lawful_held_target one)

  lawful_meant : (place : Place) (one : Tree) (word : List ℕ) (meaning : Option Meaning) → Lawful (meant_target g place one word meaning)
  lawful_meant place one word None = lawful_held_target one
  lawful_meant place one word (Some (member n m)) = lawful_member_target place one n m word
  lawful_meant place one word (Some (named n (entry.Const ty v))) = lawful_held_target one
  lawful_meant place one word (Some (named n (entry.Ty ty))) = lawful_refuses _
  lawful_meant place one word (Some (named b (entry.Var unit level n ty))) = lawful_held_target one
  lawful_meant place one word (Some (named n (entry.Code routine level header far))) = lawful_result place routine level header header.result
  lawful_meant place one word (Some (named b (entry.Std n))) = lawful_refuses _

  lawful_target : (one : Tree) → Lawful (target g one)
  lawful_target (name here word) = lawful_meant here.place (name here word) word (find g word)
  lawful_target (number place n) = lawful_held_target (number place n)
  lawful_target (text place bytes) = lawful_held_target (text place bytes)
  lawful_target (control place letter) = lawful_held_target (control place letter)
  lawful_target (nil place) = lawful_held_target (nil place)
  lawful_target (set here listing) = lawful_held_target (set here listing)
  lawful_target (call here callee given) = lawful_held_target (call here callee given)
  lawful_target (signed mark a) = lawful_held_target (signed mark a)
  lawful_target (negated place a) = lawful_held_target (negated place a)
  lawful_target (combined here op a b) = lawful_held_target (combined here op a b)
  lawful_target (field here a one) = lawful_held_target (field here a one)
  lawful_target (index here a i) = lawful_held_target (index here a i)
  lawful_target (followed place a) = lawful_held_target (followed place a)

module _ (g : Environment) where
  lawful_values : (here : Position) (all : Operands) → Lawful (values g here all)
  lawful_values here all = expression.lawful_all g here [] all

  lawful_item : (one : Operand) → Lawful (item g one)
  lawful_item (plain one) = lawful_part (written_value g one) _ (lawful_value g one) (λ e. lawful_makes _)
  lawful_item (wide one by) = lawful_parts (written_value g one) (width g by) _ (lawful_value g one) (lawful_width g by) (λ e w. lawful_makes _)

  lawful_written : (line : Bool) (all : Operands) → Lawful (written g line all)
  lawful_written line all = lawful_part (each (item g) all) _ (lawful_each (item g) lawful_item all) (λ items. lawful_makes _)

  lawful_taken_one : (here : Position) (one : Operand) → Lawful (taken_one g here one)
  lawful_taken_one here (plain one) =
      lawful_part (judged g one) (λ e. taken_from g.types.types (place_of one) here.switches.r (spot_of e)) (expression.lawful g one)
      (λ e. lawful_from g.types.types (place_of one) here.switches.r (spot_of e))
  lawful_taken_one here (wide one by) = lawful_parts (judged g one) (judged g by) _ (expression.lawful g one) (expression.lawful g by) (λ e w. lawful_refuses _)

  lawful_taken : (here : Position) (line : Bool) (all : Operands) → Lawful (taken g here line all)
  lawful_taken here line all = lawful_part (each (taken_one g here) all) _ (lawful_each (taken_one g here) (lawful_taken_one here) all) (λ items. lawful_makes _)

  lawful_sized : (one : Operand) → Lawful (sized g one)
  lawful_sized (plain one) = lawful_part (judged g one) _ (expression.lawful g one) (λ e. lawful_makes _)
  lawful_sized (wide one by) = lawful_parts (judged g one) (judged g by) _ (expression.lawful g one) (expression.lawful g by) (λ e w. lawful_makes _)

  lawful_told_of : (place : Place) (one to : Written) → Lawful (told_of g.types.types place one to)
  lawful_told_of place one to = lawful_part (told g.types.types place one to) (λ e. makes (Run e)) (lawful_told g.types.types place one to) (λ e. lawful_makes (Run e))

  lawful_misgiven : (here : Position) (all : Operands) → Lawful (misgiven g here all)
  lawful_misgiven here all = lawful_part (values g here all) (λ es. refuses {C = Statement} (broken here.place rules.Called)) (lawful_values here all) (λ es. lawful_refuses _)

  lawful_told_two : (here : Position) (all : Operands) → Lawful (told_two g here all)
  lawful_told_two here no_operands = lawful_misgiven here no_operands
  lawful_told_two here (and_operand one no_operands) = lawful_misgiven here (and_operand one no_operands)
  lawful_told_two here (and_operand one (and_operand to rest)) =
      lawful_parts (sized g one) (sized g to) (told_of g.types.types here.place) (lawful_sized one) (lawful_sized to) (lawful_told_of here.place)

  lawful_telling : (here : Position) (all : Operands) → Lawful (telling g here all)
  lawful_telling here all = lawful_either (are_two all) (told_two g here all) (misgiven g here all) (lawful_told_two here all) (lawful_misgiven here all)

  lawful_proceeding : (here : Position) (n : ℕ) (all : Operands) → Lawful (proceeding g here n all)
  lawful_proceeding here n all =
      lawful_part (values g here all) (λ es. part (standard_performed g.types.types here.place n es) (λ e. makes (Run e))) (lawful_values here all)
      (λ es. lawful_part (standard_performed g.types.types here.place n es) (λ e. makes (Run e)) (procedure.lawful_performed g.types.types here.place n es) (λ e. lawful_makes (Run e)))

  -- ---- New with a constructor, and Dispose with a destructor

  lawful_made_to : (here : Position) (two : Tree) (to : Option Spot) → Lawful (made_to g here two to)
  lawful_made_to here two None = lawful_refuses _
  lawful_made_to here two (Some to) =
      lawful_part (made_by g here.place to.ty two) (λ e. assigned_to g.types.types here to e) (expression.lawful_made_by g here.place to.ty two) (λ e. lawful_assigned_to g.types.types here to e)

  lawful_creating : (here : Position) (one two : Tree) → Lawful (creating g here one two)
  lawful_creating here one two = lawful_part (judged g one) (λ e. made_to g here two (spot_of e)) (expression.lawful g one) (λ e. lawful_made_to here two (spot_of e))

  lawful_ended_by : (here : Position) (e : Expression) (one : Option NamedCall) → Lawful (ended_by g here e one)
  lawful_ended_by here e None = lawful_refuses _
  lawful_ended_by here e (Some one) =
      lawful_part (destructor_of g here.place e one.word) (ended_with g e one) (lawful_destructor g here.place e one.word)
      (λ d. lawful_part (all_given g one.at d.header.params one.given) (λ es. unmade g.types.types one.at.place one.at.switches.r e d es)
      (expression.lawful_all g one.at d.header.params one.given) (λ es. lawful_unmade g.types.types one.at.place one.at.switches.r e d es))

  lawful_ending : (here : Position) (one two : Tree) → Lawful (ending g here one two)
  lawful_ending here one two = lawful_part (judged g one) (λ e. ended_by g here e (named_call two)) (expression.lawful g one) (λ e. lawful_ended_by here e (named_call two))

  lawful_managed : (here : Position) (n : ℕ) (all : Operands) (two : Option Pair) → Lawful (managed g here n all two)
  lawful_managed here n all None = lawful_proceeding here n all
  lawful_managed here n all (Some two) =
      lawful_either (is_creating n) (creating g here two.first two.second) (ending g here two.first two.second) (lawful_creating here two.first two.second) (lawful_ending here two.first two.second)

  lawful_managing : (here : Position) (n : ℕ) (all : Operands) → Lawful (managing g here n all)
  lawful_managing here n all = lawful_managed here n all (plain_pair all)

  lawful_standard : (here : Position) (n : ℕ) (one : StandardStatement) (all : Operands) → Lawful (standard_run g here n one all)
  lawful_standard here n (standard.Write line) all = lawful_written line all
  lawful_standard here n (standard.Read line) all = lawful_taken here line all
  lawful_standard here n standard.Halt all =
      lawful_part (values g here all) (λ es. halted g.types.types here.place es) (lawful_values here all) (λ es. lawful_halted g.types.types here.place es)
  lawful_standard here n standard.Exit all =
      lawful_part (values g here all) (λ es. left here.place es) (lawful_values here all) (λ es. lawful_left g.types.types here.place es)
  lawful_standard here n standard.Str all = lawful_telling here all
  lawful_standard here n standard.Heap all = lawful_managing here n all
  lawful_standard here n standard.Other all = lawful_proceeding here n all

  -- ---- calls

  lawful_called : (here : Position) (one : Entry) (all : Operands) → Lawful (part (all_given g here (params_of_entry one) all) (λ es. performed_entry g.types.types here one es))
  lawful_called here one all =
      lawful_part (all_given g here (params_of_entry one) all) (λ es. performed_entry g.types.types here one es) (expression.lawful_all g here (params_of_entry one) all)
      (λ es. lawful_entry g.types.types here one es)

  lawful_run_entry : (here : Position) (one : Entry) (all : Operands) → Lawful (run_entry g here one all)
  lawful_run_entry here (entry.Const ty v) all = lawful_called here (entry.Const ty v) all
  lawful_run_entry here (entry.Ty ty) all = lawful_called here (entry.Ty ty) all
  lawful_run_entry here (entry.Var unit level n ty) all = lawful_called here (entry.Var unit level n ty) all
  lawful_run_entry here (entry.Code routine level header far) all = lawful_called here (entry.Code routine level header far) all
  lawful_run_entry here (entry.Std n) all = lawful_standard here n (standard_of n) all

  lawful_run_target : (here : Position) (one : Callable) (all : Operands) → Lawful (run_target g here one all)
  lawful_run_target here (declared one) all = lawful_run_entry here one all
  lawful_run_target here (method one) all =
      lawful_part (all_given g here one.header.params all) (λ es. run_node (performed_on g.types.types here.place here.switches.r one es)) (expression.lawful_all g here one.header.params all)
      (λ es. lawful_run_node g.types.types (performed_on g.types.types here.place here.switches.r one es) (methods.lawful_performed g.types.types here.place here.switches.r one es))
  lawful_run_target here (through one) all =
      lawful_part (all_given g here one.header.params all) (λ es. run_node (performed_through g.types.types here.place here.switches.r one es)) (expression.lawful_all g here one.header.params all)
      (λ es. lawful_run_node g.types.types (performed_through g.types.types here.place here.switches.r one es) (lawful_performed_through g.types.types here.place here.switches.r one es))
  lawful_run_target here (maker ty one) all = lawful_refuses _

  lawful_run : (here : Position) (callee : Tree) (all : Operands) → Lawful (run_of g here callee all)
  lawful_run here callee all =
      lawful_part (callable g here.place callee) (λ one. run_target g here one all) (expression.lawful_callable g here.place callee) (λ one. lawful_run_target here one all)

  -- ---- labels

  lawful_label_value : (s : Sort) (one : Tree) → Lawful (label_value g s one)
  lawful_label_value s one =
      lawful_part (constants.judged g one) (λ c. rule (broken (place_of one) rules.Labelled) (are_of_one_host s (sort_of_type g.types.types c.ty)) (AreOfOneHost s (sort_of_type g.types.types c.ty)) (number_of c.value)) (constant.lawful g one)
      (λ c. lawful_rule (broken (place_of one) rules.Labelled) (are_of_one_host s (sort_of_type g.types.types c.ty)) (AreOfOneHost s (sort_of_type g.types.types c.ty)) (number_of c.value) (tells_one_host s (sort_of_type g.types.types c.ty)))

  lawful_range : (s : Sort) (one : Label) → Lawful (label_range g s one)
  lawful_range s (alone one) = lawful_part (label_value g s one) _ (lawful_label_value s one) (λ n. lawful_makes _)
  lawful_range s (from_to low high) =
      lawful_parts (label_value g s low) (label_value g s high) (λ m n. rule (broken (place_of low) rules.Constant) (int_le m n) (m ≤ℤ n) (from m n)) (lawful_label_value s low) (lawful_label_value s high)
      (λ m n. lawful_rule (broken (place_of low) rules.Constant) (int_le m n) (m ≤ℤ n) (from m n) (tells_rising m n))

  lawful_new : (s : Sort) (seen : List LabelRange) (one : Label) → Lawful (new_label g s seen one)
  lawful_new s seen one =
      lawful_part (label_range g s one) (λ r. rule (broken (label_place one) rules.Labelled) (is_new seen r) (IsNew seen r) r) (lawful_range s one)
      (λ r. lawful_rule (broken (label_place one) rules.Labelled) (is_new seen r) (IsNew seen r) r (tells_new seen r))

  lawful_labelled : (s : Sort) (seen : List LabelRange) (all : List Label) → Lawful (labelled g s seen all)
  lawful_labelled s seen [] = lawful_makes _
  lawful_labelled s seen (one ∷ rest) =
      lawful_part (new_label g s seen one) (λ r. part (labelled g s (seen ++ r ∷ []) rest) (λ rs. makes (r ∷ rs))) (lawful_new s seen one)
      (λ r. lawful_part (labelled g s (seen ++ r ∷ []) rest) (λ rs. makes (r ∷ rs)) (lawful_labelled s (seen ++ r ∷ []) rest) (λ rs. lawful_makes (r ∷ rs)))

  -- ---- loops

  lawful_counter_of : (place : Place) (one : Variable) (ty : TypeId) → Lawful (counter_of g.types.types place one ty)
  lawful_counter_of place one ty =
      lawful_rule (broken place rules.Counted) (is_near one && has_order (definition g.types.types ty)) (IsNear one × HasOrder (definition g.types.types ty)) (record { variable = one; ty = ty })
      (Decides-and _ _ (tells_near one) (tells_order (definition g.types.types ty)))

  lawful_counter_entry : (place : Place) (one : Entry) → Lawful (counter_entry g place one)
  lawful_counter_entry place (entry.Const ty v) = lawful_refuses _
  lawful_counter_entry place (entry.Ty ty) = lawful_refuses _
  lawful_counter_entry place (entry.Var unit level n ty) = lawful_counter_of place (variable g unit level n) ty
  lawful_counter_entry place (entry.Code routine level header far) = lawful_refuses _
  lawful_counter_entry place (entry.Std n) = lawful_refuses _

  lawful_counter_meant : (place : Place) (feature : Option Feature) (one : Option Meaning) → Lawful (counter_meant g place feature one)
  lawful_counter_meant place feature None = lawful_refuses _
  lawful_counter_meant place feature (Some (named n one)) = lawful_counter_entry place one
  lawful_counter_meant place feature (Some (member n m)) = lawful_refuses _

  lawful_counter : (place : Place) (word : List ℕ) → Lawful (counter g place word)
  unfolding counter
  lawful_counter place word = lawful_counter_meant place (feature_of word) (find g word)

  lawful_bound_by : (place : Place) (ty : TypeId) (checked : Bool) (e : Expression) → Lawful (bound_by g.types.types place ty checked e)
  lawful_bound_by place ty checked e =
      lawful_rule (broken place rules.Assigned) (is_assignable g.types.types (sort_of_type g.types.types ty) (sort_of g.types.types e) ty (type_of e))
      (IsAssignable g.types.types (sort_of_type g.types.types ty) (sort_of g.types.types e) ty (type_of e))
      (assigned_by ty (whole (definition g.types.types ty)) (stored_of g.types.types e) checked e)
      (tells_assignable g.types.types (sort_of_type g.types.types ty) (sort_of g.types.types e) ty (type_of e))

  lawful_bound : (checked : Bool) (ty : TypeId) (one : Tree) → Lawful (bound g checked ty one)
  lawful_bound checked ty one =
      lawful_part (judged g one) (λ e. bound_by g.types.types (place_of one) ty checked e) (expression.lawful g one) (λ e. lawful_bound_by (place_of one) ty checked e)

  lawful_counted_from : (checked : Bool) (first last : Tree) (one : Counter) → Lawful (counted_from g checked first last one)
  lawful_counted_from checked first last one =
      lawful_parts (bound g checked one.ty first) (bound g checked one.ty last) _ (lawful_bound checked one.ty first) (lawful_bound checked one.ty last) (λ a b. lawful_makes _)

  lawful_counted : (checked : Bool) (place : Place) (word : List ℕ) (first last : Tree) → Lawful (counted g checked place word first last)
  lawful_counted checked place word first last =
      lawful_part (counter g place word) (counted_from g checked first last) (lawful_counter place word) (lawful_counted_from checked first last)

  -- ---- what is opened

  lawful_spot : (place : Place) (one : Option Spot) → Lawful (opened_spot g.types.types place one)
  lawful_spot place None = lawful_refuses _
  lawful_spot place (Some one) =
      lawful_rule (broken place rules.Opened) (has_members (definition g.types.types one.ty)) (HasMembers (definition g.types.types one.ty)) one (tells_members (definition g.types.types one.ty))

  lawful_held : (place : Place) (one : Tree) → Lawful (held g place one)
  lawful_held place one = lawful_part (judged g one) (λ e. opened_spot g.types.types place (spot_of e)) (expression.lawful g one) (λ e. lawful_spot place (spot_of e))

-- ---- statements

abbrev branch : Environment → Sort → List LabelRange → Task → Branches → List LabelRange → Judgement (List Armed)
branch g s seen body rest rs = parts (stated g body) (branched g s (seen ++ rs) rest) (λ x arms. makes ((record { labels = rs; body = x }) ∷ arms))

lawful_assigning : (g : Environment) (here : Position) (from : Tree) (t : Spot) → Lawful (assigning g here from t)
lawful_assigning g here from t =
    let for : Purpose = purpose_for g.types.types t.ty (broken here.place rules.Assigned) in
    lawful_part (judged_as g for from) (λ e. assigned_to g.types.types here t e) (expression.lawful_judged g for from) (λ e. lawful_assigned_to g.types.types here t e)

lawful_blocked : (all : Judgement (List Statement)) → Lawful all → Lawful (blocked all)
lawful_blocked all m = lawful_part all (λ l. makes (block_of l)) m (λ l. lawful_makes (block_of l))

mutual
  pub lawful : (g : Environment) (task : Task) → Lawful (stated g task)
  lawful g empty = lawful_makes _
  lawful g (assignment here to from) =
      lawful_part (target g to) (λ t. assigning g here from t) (lawful_target g to) (λ t. lawful_assigning g here from t)
  lawful g (run here callee given) = lawful_run g here callee given
  lawful g (compound all) = lawful_blocked (listed g all) (lawful_listed g all)
  lawful g (choice here test then other) = lawful_three (condition g test) (stated g then) (stated g other) _ (lawful_condition g test) (lawful g then) (lawful g other)
  lawful g (selection here by branches other) =
      lawful_part (selector g by) (chosen g branches other) (lawful_selector g by)
      (λ e. lawful_parts (branched g (sort_of g.types.types e) [] branches) (listed g other) (λ arms l. makes (Case e (arms_of arms) (block_of l)))
      (lawful_branched g (sort_of g.types.types e) [] branches) (lawful_listed g other) (λ arms l. lawful_makes (Case e (arms_of arms) (block_of l))))
  lawful g (while_loop here test body) = lawful_parts (condition g test) (stated g body) _ (lawful_condition g test) (lawful g body) (λ e s. lawful_makes _)
  lawful g (repeat_loop here all test) = lawful_parts (listed g all) (condition g test) _ (lawful_listed g all) (lawful_condition g test) (λ l e. lawful_makes _)
  lawful g (for_loop here at word first way last body) =
      lawful_parts (counted g here.switches.r at.place word first last) (stated g body) _ (lawful_counted g here.switches.r at.place word first last) (lawful g body) (λ c s. lawful_makes _)
  lawful g (opened here designator body) =
      lawful_part (held g here.place designator) (inside g body) (lawful_held g here.place designator)
      (λ t. lawful_part (stated (within g t.ty) body) (λ s. makes (With t.at s)) (lawful (within g t.ty) body) (λ s. lawful_makes (With t.at s)))

  lawful_listed : (g : Environment) (all : Tasks) → Lawful (listed g all)
  lawful_listed g no_tasks = lawful_makes _
  lawful_listed g (and_task one rest) = lawful_parts (stated g one) (listed g rest) _ (lawful g one) (lawful_listed g rest) (λ s l. lawful_makes _)

  lawful_branched : (g : Environment) (s : Sort) (seen : List LabelRange) (all : Branches) → Lawful (branched g s seen all)
  lawful_branched g s seen no_branches = lawful_makes _
  lawful_branched g s seen (and_branch labels body rest) =
      lawful_part (labelled g s seen labels) (branch g s seen body rest) (lawful_labelled g s seen labels)
      (λ rs. lawful_parts (stated g body) (branched g s (seen ++ rs) rest) (λ x arms. makes ((record { labels = rs; body = x }) ∷ arms))
      (lawful g body) (lawful_branched g s (seen ++ rs) rest) (λ x arms. lawful_makes ((record { labels = rs; body = x }) ∷ arms)))

-- The grammar's tree, read back: what a node means, by its production and by what its parts mean.
use Rattle.std.specs.Prelude.{true, false, List, [], ◌∷◌, Option, Some, None}
use Rattle.tp_check_decl.specs.pascal_grammar.declared.lexeme.Position.{Position}
use Rattle.tp_check_decl.specs.pascal_grammar.Lexemes.{Kept}
use Rattle.tp_check_decl.specs.pascal_grammar.Lexemes as v
use Rattle.tp_check_decl.specs.pascal_grammar.Productions.{Production}
use Rattle.tp_check_decl.specs.pascal_grammar.Productions as p
use Rattle.tp_check_decl.specs.ll1_grammar.Grammar.{pair, leaf, node}
use Rattle.tp_check_decl.specs.syntax_tree.declared.identifier.Identifier.{Identifier}
use Rattle.tp_check_decl.specs.syntax_tree.declared.expression.PlacedSign.{PlacedSign}
use Rattle.tp_check_decl.specs.syntax_tree.Expressions.{Parsed}
use Rattle.tp_check_decl.specs.syntax_tree.declared.type_tree.parameter.NamedType.{NamedType}
use Rattle.tp_check_decl.specs.syntax_tree.declared.type_tree.parameter.NamedType.TheVariants as n
use Rattle.tp_check_decl.specs.syntax_tree.expression_tree.Trees as e
use Rattle.tp_check_decl.specs.syntax_tree.expression_tree.Trees.{Tree, of_relator, of_adder, of_multiplier}
use Rattle.tp_check_decl.specs.syntax_tree.statement_tree.Trees as s
use Rattle.address_independence.specs.yields.Written as w
use Rattle.address_independence.specs.yields.Values.{Value, blank, nth}

-- ---- lexemes

abbrev pub kept : Kept → Value
kept v.nothing = blank
kept (v.position here) = record blank { position = here }
kept (v.named name here) = record blank { position = here; identifier = record { name = name; position = here } }
kept (v.number n here) = record blank { position = here; number = n }
kept (v.text bytes here) = record blank { position = here; text = bytes }
kept (v.relator op here) = record blank { position = here; operator = of_relator op }
kept (v.adder op here) = record blank { position = here; operator = of_adder op }
kept (v.multiplier op here) = record blank { position = here; operator = of_multiplier op }
kept (v.sign sign here) = record blank { position = here; sign = sign }
kept (v.direction way here) = record blank { position = here; direction = way }

-- ---- expressions

abbrev pub treed : Tree → Value
treed t = record blank { tree = t }

abbrev pub chained : (Tree → Tree) → Value
chained f = record blank { chain = f }

abbrev pub placed_sign : Value → PlacedSign
placed_sign x = record { sign = x.sign; position = x.position }

abbrev pub name_tree : Identifier → Tree
name_tree i = e.name i.position i.name

-- an operator behind an operand: with a sign, its other operand, and what comes behind that
abbrev pub combining : Value → Value → Value → Value → Value
combining op mark right more = chained (λ t. more.chain (e.combined op.position op.operator t (e.signed mark.mark right.tree)))

-- an index in a designator, and what comes behind it
abbrev pub indexing : Value → Value → Value → Value
indexing here i more = chained (λ t. more.chain (e.index here.position t i.tree))

-- a name with its selectors
abbrev pub selected : Value → Value → Tree
selected head selectors = selectors.chain (name_tree head.identifier)

-- the same with its arguments and the factors and terms behind it
abbrev pub named_simple : Identifier → Value → Value → Value → Value → Tree
named_simple i selectors call factors terms = terms.chain (factors.chain (call.called i.position (selectors.chain (name_tree i))))

-- ---- headers

abbrev pub headed_by : w.Sort → Position → Identifier → Value → Option NamedType → w.Heading
headed_by sort here name groups result = record { sort = sort; position = here; name = name; groups = groups.groups; result = result }

abbrev pub heading_of : w.Sort → List Value → Option NamedType → Value
heading_of sort vs result = record blank { heading = headed_by sort (nth vs 0).position (nth vs 1).identifier (nth vs 2) result }

abbrev pub grouped : Value → Value → List w.Group
grouped x more = x.group ∷ more.groups

-- ---- types

abbrev pub denoted : w.Denoter → Value
denoted d = record blank { denoter = d }

-- what may be `packed`, which it then begins with
abbrev pub structured : Value → (Position → w.Denoter) → Value
structured here make = record blank { position = here.position; of_caret = make }

abbrev pub fields_behind : Value → Value → Value → w.Fields
fields_behind names one more = w.and_fields names.names one.denoter more.fields

-- ---- first values

-- a first value of several in a list
abbrev pub listing_from : Tree → Value → Position → w.Initial
listing_from t more here = w.list here.place (w.and_initial (w.value t) more.firsts)

-- ---- productions

abbrev pub meaning : Production → List Value → Value
meaning p.expression vs = treed ((nth vs 1).chain (nth vs 0).tree)
meaning p.relation vs = chained (λ t. e.combined (nth vs 0).position (nth vs 0).operator t (nth vs 1).tree)
meaning p.unsigned vs = treed ((nth vs 1).chain (nth vs 0).tree)
meaning p.signed vs = treed ((nth vs 2).chain (e.signed (Some (placed_sign (nth vs 0))) (nth vs 1).tree))
meaning p.more_terms vs = nth vs 0
meaning p.added vs = combining (nth vs 0) (nth vs 1) (nth vs 2) (nth vs 3)
meaning p.sign vs = record blank { mark = Some (placed_sign (nth vs 0)) }
meaning p.term vs = treed ((nth vs 1).chain (nth vs 0).tree)
meaning p.more_factors vs = nth vs 0
meaning p.multiplied vs = combining (nth vs 0) (nth vs 1) (nth vs 2) (nth vs 3)
meaning p.bare_factor vs = nth vs 0
meaning p.closed_factor vs = nth vs 0
meaning p.number vs = treed (e.number (nth vs 0).position.place (nth vs 0).number)
meaning p.text vs = treed (e.text (nth vs 0).position.place (nth vs 0).text)
meaning p.control vs = treed (e.control (nth vs 0).position.place (nth vs 1).identifier.name)
meaning p.nil vs = treed (e.nil (nth vs 0).position.place)
meaning p.negation vs = treed (e.negated (nth vs 0).position.place (nth vs 1).tree)
meaning p.group_factor vs = nth vs 1
meaning p.set_constructor vs = treed (e.set (nth vs 0).position (nth vs 1).elements)
meaning p.named_factor vs = treed ((nth vs 2).called (nth vs 0).identifier.position (selected (nth vs 0) (nth vs 1)))
meaning p.call vs = record blank { called = λ here t. e.call here t (nth vs 0).operands }
meaning p.elements vs = record blank { elements = e.and_element (nth vs 0).listed (nth vs 1).elements }
meaning p.next_element vs = record blank { elements = e.and_element (nth vs 1).listed (nth vs 2).elements }
meaning p.element vs = record blank { listed = (nth vs 1).listing (nth vs 0).tree }
meaning p.element_range vs = record blank { listing = λ t. e.span t (nth vs 1).tree }
meaning p.arguments vs = record blank { operands = e.and_operand (nth vs 1).operand (nth vs 2).operands }
meaning p.next_argument vs = record blank { operands = e.and_operand (nth vs 1).operand (nth vs 2).operands }
meaning p.argument vs = record blank { operand = (nth vs 1).width (nth vs 0).tree }
meaning p.width vs = record blank { width = λ t. e.wide t (nth vs 1).tree }
meaning p.more_selectors vs = nth vs 0
meaning p.field vs = chained (λ t. (nth vs 2).chain (e.field (nth vs 0).position t (nth vs 1).identifier.name))
meaning p.index vs = indexing (nth vs 0) (nth vs 1) (nth vs 2)
meaning p.next_index vs = indexing (nth vs 0) (nth vs 1) (nth vs 2)
meaning p.last_index vs = nth vs 1
meaning p.dereference vs = chained (λ t. (nth vs 1).chain (e.followed (nth vs 0).position.place t))
meaning p.designator vs = record blank { position = (nth vs 0).identifier.position; tree = selected (nth vs 0) (nth vs 1) }
meaning p.named_statement vs = record blank { task = (nth vs 2).acting (nth vs 0).identifier.position (selected (nth vs 0) (nth vs 1)) }
meaning p.assignment vs = record blank { acting = λ here t. s.assignment here t (nth vs 1).tree }
meaning p.called vs = record blank { acting = λ here t. s.run here t (nth vs 0).operands }
meaning p.compound_statement vs = record blank { task = s.compound (nth vs 0).body.tasks }
meaning p.compound vs = record blank { body = record { position = (nth vs 0).position; tasks = (nth vs 1).tasks } }
meaning p.statements vs = record blank { tasks = s.and_task (nth vs 0).task (nth vs 1).tasks }
meaning p.next_statement vs = record blank { tasks = s.and_task (nth vs 1).task (nth vs 2).tasks }
meaning p.if_statement vs = record blank { task = s.choice (nth vs 0).position (nth vs 1).tree (nth vs 3).task (nth vs 4).task }
meaning p.with_else vs = nth vs 1
meaning p.case_statement vs = record blank { task = s.selection (nth vs 0).position (nth vs 1).tree ((nth vs 3).arm (nth vs 4).branches) (nth vs 5).tasks }
meaning p.case_else vs = nth vs 1
meaning p.arm vs = record blank { arm = λ rest. s.and_branch ((nth vs 0).label ∷ (nth vs 1).labels) (nth vs 3).task rest }
meaning p.semicolon_arms vs = nth vs 1
meaning p.next_arm vs = record blank { branches = (nth vs 0).arm (nth vs 1).branches }
meaning p.label vs = record blank { label = (nth vs 1).bound (nth vs 0).tree }
meaning p.label_range vs = record blank { bound = λ t. s.from_to t (nth vs 1).tree }
meaning p.next_label vs = record blank { labels = (nth vs 1).label ∷ (nth vs 2).labels }
meaning p.while_statement vs = record blank { task = s.while_loop (nth vs 0).position (nth vs 1).tree (nth vs 3).task }
meaning p.repeat_statement vs = record blank { task = s.repeat_loop (nth vs 0).position (nth vs 1).tasks (nth vs 3).tree }
meaning p.for_statement vs = record blank { task = s.for_loop (nth vs 0).position (nth vs 1).identifier.position (nth vs 1).identifier.name (nth vs 3).tree (nth vs 4).direction (nth vs 5).tree (nth vs 7).task }
meaning p.with_statement vs = record blank { task = s.opened (nth vs 1).position (nth vs 1).tree (nth vs 2).task }
meaning p.next_designator vs = record blank { task = s.opened (nth vs 1).position (nth vs 1).tree (nth vs 2).task }
meaning p.with_body vs = nth vs 1
meaning p.identifiers vs = record blank { names = (nth vs 0).identifier ∷ (nth vs 1).names }
meaning p.next_identifier vs = record blank { names = (nth vs 1).identifier ∷ (nth vs 2).names }
meaning p.parameter_type_name vs = record blank { named = n.Name (nth vs 0).identifier }
meaning p.parameter_string vs = record blank { named = n.String (nth vs 0).position }
meaning p.result_type_name vs = record blank { named = n.Name (nth vs 0).identifier }
meaning p.result_string vs = record blank { named = n.String (nth vs 0).position }
meaning p.result vs = record blank { result = Some (nth vs 1).named }
meaning p.typed_group vs = nth vs 1
meaning p.variable_group vs = record blank { group = record { by_ref = true; names = (nth vs 1).names; of_type = (nth vs 2).named } }
meaning p.value_group vs = record blank { group = record { by_ref = false; names = (nth vs 0).names; of_type = (nth vs 2).named } }
meaning p.next_group vs = record blank { groups = grouped (nth vs 1) (nth vs 2) }
meaning p.parameters vs = record blank { groups = grouped (nth vs 1) (nth vs 2) }
meaning p.method_procedure vs = heading_of w.procedure vs None
meaning p.method_function vs = heading_of w.function vs (nth vs 3).result
meaning p.method_constructor vs = heading_of w.constructor vs None
meaning p.method_destructor vs = heading_of w.destructor vs None
meaning p.procedure_header vs = heading_of w.procedure vs None
meaning p.function_header vs = heading_of w.function vs (nth vs 3).result
meaning p.virtual vs = record blank { is_virtual = true }
meaning p.method vs = record blank { methods = record { heading = (nth vs 0).heading; is_virtual = (nth vs 2).is_virtual } ∷ (nth vs 3).methods }
meaning p.type_name vs = denoted ((nth vs 1).of_name (nth vs 0).identifier)
meaning p.selected_range vs = record blank { of_name = λ i. w.range (named_simple i (nth vs 0) (nth vs 1) (nth vs 2) (nth vs 3)) (nth vs 5).tree }
meaning p.called_range vs = record blank { of_name = λ i. w.range ((nth vs 3).chain ((nth vs 2).chain (e.call i.position (name_tree i) (nth vs 0).operands))) (nth vs 5).tree }
meaning p.multiplied_range vs = record blank { of_name = λ i. w.range ((nth vs 1).chain ((nth vs 0).chain (name_tree i))) (nth vs 3).tree }
meaning p.added_range vs = record blank { of_name = λ i. w.range ((nth vs 0).chain (name_tree i)) (nth vs 2).tree }
meaning p.named_range vs = record blank { of_name = λ i. w.range (name_tree i) (nth vs 1).tree }
meaning p.caret_type vs = denoted ((nth vs 1).of_caret (nth vs 0).position)
meaning p.long_target vs = record blank { of_caret = λ here. w.pointer (nth vs 0).identifier }
meaning p.letter_target vs = record blank { of_caret = λ here. (nth vs 1).of_letter here (nth vs 0).identifier }
meaning p.multiplied_control vs = record blank { of_letter = λ here i. w.range ((nth vs 1).chain ((nth vs 0).chain (e.control here.place i.name))) (nth vs 3).tree }
meaning p.added_control vs = record blank { of_letter = λ here i. w.range ((nth vs 0).chain (e.control here.place i.name)) (nth vs 2).tree }
meaning p.control_range vs = record blank { of_letter = λ here i. w.range (e.control here.place i.name) (nth vs 1).tree }
meaning p.signed_range vs = denoted (w.range ((nth vs 2).chain (e.signed (Some (placed_sign (nth vs 0))) (nth vs 1).tree)) (nth vs 4).tree)
meaning p.closed_range vs = denoted (w.range ((nth vs 2).chain ((nth vs 1).chain (nth vs 0).tree)) (nth vs 4).tree)
meaning p.enumeration_type vs = denoted (w.enumeration (nth vs 0).position.place (nth vs 1).names)
meaning p.string_type vs = denoted ((nth vs 1).of_caret (nth vs 0).position)
meaning p.sized vs = record blank { of_caret = λ here. w.sized here.place (nth vs 1).tree }
meaning p.procedural_type vs = denoted (w.procedural (nth vs 0).position.place (nth vs 1).groups)
meaning p.functional_type vs = denoted (w.functional (nth vs 0).position.place (nth vs 1).groups (nth vs 3).named)
meaning p.object_type vs = denoted (w.object (nth vs 0).position.place (nth vs 1).ancestor (nth vs 2).fields (nth vs 2).methods)
meaning p.ancestor vs = record blank { ancestor = Some (nth vs 1).identifier }
meaning p.object_methods vs = record blank { methods = (nth vs 0).methods }
meaning p.object_fields vs = record blank { fields = fields_behind (nth vs 0) (nth vs 2) (nth vs 3); methods = (nth vs 3).methods }
meaning p.next_object_part vs = nth vs 1
meaning p.packed_type vs = denoted ((nth vs 1).of_caret (nth vs 0).position)
meaning p.packed_structured vs = nth vs 0
meaning p.structured_type vs = denoted ((nth vs 0).of_caret (nth vs 0).position)
meaning p.array_type vs = structured (nth vs 0) (λ here. w.array here.place (nth vs 1).denoters (nth vs 3).denoter)
meaning p.record_type vs = structured (nth vs 0) (λ here. w.record_of here.place (nth vs 1).fields)
meaning p.set_type vs = structured (nth vs 0) (λ here. w.set here.place (nth vs 2).denoter)
meaning p.index_types vs = record blank { denoters = w.and_denoter (nth vs 1).denoter (nth vs 2).denoters }
meaning p.next_index_type vs = record blank { denoters = w.and_denoter (nth vs 1).denoter (nth vs 2).denoters }
meaning p.fields vs = record blank { fields = fields_behind (nth vs 0) (nth vs 2) (nth vs 3) }
meaning p.next_fields vs = nth vs 1
meaning p.signed_value vs = record blank { first = w.value ((nth vs 2).chain (e.signed (Some (placed_sign (nth vs 0))) (nth vs 1).tree)) }
meaning p.value vs = record blank { first = w.value ((nth vs 2).chain ((nth vs 1).chain (nth vs 0).tree)) }
meaning p.list vs = nth vs 0
meaning p.initializer_list vs = record blank { first = (nth vs 1).opened (nth vs 0).position }
meaning p.begins_with_list vs = record blank { opened = λ here. w.list here.place (w.and_initial (nth vs 0).first (nth vs 1).firsts) }
meaning p.begins_with_sign vs = record blank { opened = listing_from ((nth vs 2).chain (e.signed (Some (placed_sign (nth vs 0))) (nth vs 1).tree)) (nth vs 3) }
meaning p.begins_with_control vs = record blank { opened = listing_from ((nth vs 3).chain ((nth vs 2).chain (e.control (nth vs 0).position.place (nth vs 1).identifier.name))) (nth vs 4) }
meaning p.begins_with_closed vs = record blank { opened = listing_from ((nth vs 2).chain ((nth vs 1).chain (nth vs 0).tree)) (nth vs 3) }
meaning p.begins_with_name vs = record blank { opened = λ here. (nth vs 1).opened_by (nth vs 0).identifier here }
meaning p.named_value vs = record blank { opened_by = λ i here. listing_from (named_simple i (nth vs 0) (nth vs 1) (nth vs 2) (nth vs 3)) (nth vs 4) here }
meaning p.field_values vs = record blank { opened_by = λ i here. w.fields here.place (w.and_named i (nth vs 1).first (nth vs 2).named_firsts) }
meaning p.next_initializer vs = record blank { firsts = w.and_initial (nth vs 1).first (nth vs 2).firsts }
meaning p.next_field_value vs = record blank { named_firsts = w.and_named (nth vs 1).identifier (nth vs 3).first (nth vs 4).named_firsts }
meaning p.constant vs = record blank { constant = (nth vs 1).defined (nth vs 0).identifier }
meaning p.plain_constant vs = record blank { defined = λ i. w.plain i (nth vs 1).tree }
meaning p.typed_constant vs = record blank { defined = λ i. w.typed i (nth vs 1).denoter (nth vs 3).first }
meaning p.next_constant vs = record blank { constants = (nth vs 0).constant ∷ (nth vs 1).constants }
meaning p.type_declaration vs = record blank { type_named = record { name = (nth vs 0).identifier; denoter = (nth vs 2).denoter } }
meaning p.next_type vs = record blank { types = (nth vs 0).type_named ∷ (nth vs 1).types }
meaning p.variable vs = record blank { variable = record { names = (nth vs 0).names; denoter = (nth vs 2).denoter } }
meaning p.next_variable vs = record blank { variables = (nth vs 0).variable ∷ (nth vs 1).variables }
meaning p.constants vs = record blank { works = w.and_part (w.constants ((nth vs 1).constant ∷ (nth vs 2).constants)) (nth vs 3).works }
meaning p.types vs = record blank { works = w.and_part (w.types ((nth vs 1).type_named ∷ (nth vs 2).types)) (nth vs 3).works }
meaning p.variables vs = record blank { works = w.and_part (w.variables ((nth vs 1).variable ∷ (nth vs 2).variables)) (nth vs 3).works }
meaning p.routines vs = record blank { works = w.and_work (nth vs 0).work (nth vs 1).works }
meaning p.procedure vs = record blank { work = (nth vs 2).headed (nth vs 0).position (nth vs 1).identifier }
meaning p.function vs = record blank { work = (nth vs 2).headed (nth vs 0).position (nth vs 1).identifier }
meaning p.plain_procedure vs = record blank { headed = λ here i. (nth vs 2).worked (headed_by w.procedure here i (nth vs 0) None) }
meaning p.plain_function vs = record blank { headed = λ here i. (nth vs 3).worked (headed_by w.function here i (nth vs 0) (nth vs 1).result) }
meaning p.procedure_method vs = record blank { headed = λ here owner. w.method (headed_by w.procedure here (nth vs 1).identifier (nth vs 2) None) owner (nth vs 4).works (nth vs 4).body }
meaning p.function_method vs = record blank { headed = λ here owner. w.method (headed_by w.function here (nth vs 1).identifier (nth vs 2) (nth vs 3).result) owner (nth vs 5).works (nth vs 5).body }
meaning p.constructor vs = record blank { work = w.method (headed_by w.constructor (nth vs 0).position (nth vs 3).identifier (nth vs 4) None) (nth vs 1).identifier (nth vs 6).works (nth vs 6).body }
meaning p.destructor vs = record blank { work = w.method (headed_by w.destructor (nth vs 0).position (nth vs 3).identifier (nth vs 4) None) (nth vs 1).identifier (nth vs 6).works (nth vs 6).body }
meaning p.own_block vs = record blank { worked = λ x. w.routine x (nth vs 0).works (nth vs 0).body }
meaning p.block vs = record blank { works = (nth vs 0).works; body = (nth vs 1).body }
meaning p.interface_constants vs = record blank { shown = w.part (w.constants ((nth vs 1).constant ∷ (nth vs 2).constants)) ∷ (nth vs 3).shown }
meaning p.interface_types vs = record blank { shown = w.part (w.types ((nth vs 1).type_named ∷ (nth vs 2).types)) ∷ (nth vs 3).shown }
meaning p.interface_variables vs = record blank { shown = w.part (w.variables ((nth vs 1).variable ∷ (nth vs 2).variables)) ∷ (nth vs 3).shown }
meaning p.interface_header vs = record blank { shown = w.heading (nth vs 0).heading ∷ (nth vs 3).shown }
meaning p.uses_clause vs = nth vs 1
meaning p.initialization vs = record blank { initial = Some (nth vs 0).body }
meaning p.program vs = record blank { source = w.program (nth vs 1).names (nth vs 2).works (nth vs 3).body }
meaning p.unit vs = record blank { source = w.unit (nth vs 0).position (nth vs 1).identifier (nth vs 4).names (nth vs 7).names (nth vs 5).shown (nth vs 8).works (nth vs 9).initial }
meaning q vs = blank

abbrev mutual
  pub meant : Parsed → Value
  meant (leaf k) = kept k
  meant (node q t) = meaning q (meants t)
  meant t = blank

  -- of the parts of a node, each
  pub meants : Parsed → List Value
  meants (pair t u) = meant t ∷ meants u
  meants t = []

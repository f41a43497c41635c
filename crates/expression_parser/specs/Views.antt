-- What was read before, with what comes behind it.
use Rattle.std.specs.Prelude.{List, [], ◌∷◌, Option, Some, None, Result, Ok}
use Rattle.pascal_grammar.specs.declared.lexeme.Lexeme.{Lexeme}
use Rattle.pascal_grammar.specs.declared.lexeme.Position.{Position}
use Rattle.pascal_grammar.specs.declared.operator.Relator.{Relator}
use Rattle.pascal_grammar.specs.declared.operator.Adder.{Adder}
use Rattle.pascal_grammar.specs.declared.operator.Multiplier.{Multiplier}
use Rattle.pascal_grammar.specs.Lexemes as v
use Rattle.pascal_grammar.specs.Productions.{Production}
use Rattle.pascal_grammar.specs.Productions as p
use Rattle.ll1_grammar.specs.Grammar.{nil, leaf}
use Rattle.ll1_grammar.specs.Readers.{Fault, ◌>>=◌}
use Rattle.syntax_tree.specs.declared.expression.PlacedSign.{PlacedSign}
use Rattle.syntax_tree.specs.declared.expression.IndexMark.{IndexMark}
use Rattle.syntax_tree.specs.declared.expression.IndexMark.TheVariants as mark
use Rattle.syntax_tree.specs.declared.expression.Designator.{Designator}
use Rattle.syntax_tree.specs.declared.expression.Element.{Element}
use Rattle.syntax_tree.specs.declared.expression.Argument.{Argument}
use Rattle.syntax_tree.specs.Expressions.{Parsed, of, word, mark_at, signs, selector, of_element, of_argument, head_of, selectors, indexes}

abbrev pub next_elements : List Element → Parsed → Parsed
next_elements [] more = more
next_elements (x ∷ all) more = of p.next_element (word ∷ of_element x ∷ next_elements all more ∷ [])

abbrev pub elements_of : List Element → Parsed → Parsed
elements_of [] more = of p.no_elements []
elements_of (x ∷ all) more = of p.elements (of_element x ∷ next_elements all more ∷ [])

abbrev pub next_arguments : List Argument → Parsed → Parsed
next_arguments [] more = more
next_arguments (x ∷ all) more = of p.next_argument (word ∷ of_argument x ∷ next_arguments all more ∷ [])

-- the first argument, and those behind it
abbrev pub argument_list : List Argument → Parsed → Parsed × Parsed
argument_list [] more = (nil, nil)
argument_list (x ∷ all) more = (of_argument x, next_arguments all more)

abbrev pub arguments_of : List Argument → Parsed → Parsed
arguments_of all more = of p.arguments (word ∷ (argument_list all more).0 ∷ (argument_list all more).1 ∷ word ∷ [])

-- what was read before, and what is still read
abbrev pub with_front : {A B : Type 0} → (A → B) → Result (A × List Lexeme) (Fault Production) → Result (B × List Lexeme) (Fault Production)
with_front front read = read >>= λ x. Ok (front x.0, x.1)

-- one simple expression, and two that are compared
abbrev pub single_of : Parsed → Parsed
single_of s = of p.expression (s ∷ of p.no_relation [] ∷ [])

abbrev pub compared_of : Relator → Position → Parsed → Parsed → Parsed
compared_of op here s t = of p.expression (s ∷ of p.relation (leaf (v.relator op here) ∷ t ∷ []) ∷ [])

-- a term with the sign before it, and the terms behind it
abbrev pub leading_of : Option PlacedSign → Parsed → Parsed → Parsed
leading_of (Some s) t more = of p.signed (leaf (v.sign s.sign s.position) ∷ t ∷ more ∷ [])
leading_of None t more = of p.unsigned (t ∷ more ∷ [])

-- one more term, and the terms behind it
abbrev pub added_of : Adder → Position → Option PlacedSign → Parsed → Parsed → Parsed
added_of op here sign t more = of p.more_terms (of p.added (leaf (v.adder op here) ∷ signs sign ∷ t ∷ more ∷ []) ∷ [])

-- one more factor, and the factors behind it
abbrev pub multiplied_of : Multiplier → Position → Option PlacedSign → Parsed → Parsed → Parsed
multiplied_of op here sign f more = of p.more_factors (of p.multiplied (leaf (v.multiplier op here) ∷ signs sign ∷ f ∷ more ∷ []) ∷ [])

-- a designator, with more selectors behind it
abbrev pub named_with : Designator → Parsed → Parsed × Parsed
named_with d more = (head_of d, selectors d more)

-- one that ends with an index, with more indexes behind it
abbrev pub indexed_with : Designator → Parsed → Parsed × Parsed
indexed_with d more = (head_of d, indexes d more)

-- the same of one whose last index this is
abbrev pub index_of : IndexMark → Designator → Position → Parsed → Parsed → Parsed × Parsed
index_of mark.Bracket o here i more = named_with o (selector p.index (mark_at here ∷ i ∷ more ∷ []))
index_of mark.Comma o here i more = indexed_with o (of p.next_index (mark_at here ∷ i ∷ more ∷ []))

-- One step of each loop.
use Rattle.std.proofs.Common.{◌≡◌, ℕ, ◌≤◌, ◌<◌, true, List, [], ◌∷◌, ◌++◌, length, Result, Ok, refl, ap, ◌∙◌}
use Rattle.pascal_grammar.specs.declared.kind.Kind.{Kind}
use Rattle.pascal_grammar.specs.declared.kind.Kind.TheVariants as k
use Rattle.pascal_grammar.specs.declared.lexeme.Lexeme.{Lexeme}
use Rattle.pascal_grammar.specs.Productions.{Production}
use Rattle.pascal_grammar.specs.Productions as p
use Rattle.ll1_grammar.specs.Readers.{Fault}
use Rattle.syntax_tree.specs.declared.identifier.Identifier.{Identifier}
use Rattle.syntax_tree.specs.Expressions.{Parsed, of, word, name_of}
use Rattle.expression_parser.specs.Gives.{Reads, name_at}
use Rattle.expression_parser.specs.Reading.{begins, tail_of, list_from, inside}
use Rattle.expression_parser.specs.Views.{with_front}
use Rattle.expression_parser.proofs.Fronts.{same_front}
use Rattle.expression_parser.proofs.Loop.{Goes, starts, next}
use Rattle.syntax_tree.specs.declared.type_tree.parameter.ParameterGroup.{ParameterGroup}
use Rattle.syntax_tree.specs.declared.type_tree.parameter.Method.{Method}
use Rattle.syntax_tree.specs.type_tree.Parameters.{next_identifiers, identifiers_with, of_group, next_groups, group_list, method_header_of, virtual_of, methods_with}
use Rattle.type_parser.specs.parameter_parser.Reading.{identifiers_at, group_at, group_list_at, begins_method, method_at, methods, methods_at}
use Rattle.type_parser.proofs.parameter_parser.Going.{NamesGo, GroupsGo, MethodsGo}
use Rattle.type_parser.proofs.parameter_parser.Loop as chain

-- one item more, by a front that does the same
pub again : {C : Type 0} (sep : Kind) (none after : Production) (item : Reads) (f g : Parsed → C) (rest past : List Lexeme) (x : Parsed) (total : Result (C × List Lexeme) (Fault Production))
    → begins sep rest ≡ true → item (tail_of rest) ≡ Ok (x, past) → length past ≤ length (tail_of rest) → ((z : Parsed) → g z ≡ f (of after (word ∷ x ∷ z ∷ []))) → Goes sep none after item f rest total → Goes sep none after item g past total
again sep none after item f g rest past x total b e l h i =
    let n = next sep none after item f rest (x, past) total b e l i in
    record { count = n.count; enough = n.enough; is = same_front g (λ z. f (of after (word ∷ x ∷ z ∷ []))) h (list_from sep none after item n.count past) ∙ n.is }

-- ---- names

names_pushed : (first : Identifier) (others : List Identifier) (x : Identifier) (z : Parsed) → identifiers_with ((first ∷ others) ++ (x ∷ [])) z ≡ identifiers_with (first ∷ others) (of p.next_identifier (word ∷ name_of x ∷ z ∷ []))
names_pushed first others x z = ap (λ (y : Parsed). of p.identifiers (name_of first ∷ y ∷ [])) (pushed others)
  where
    pushed : (all : List Identifier) → next_identifiers (all ++ (x ∷ [])) z ≡ next_identifiers all (of p.next_identifier (word ∷ name_of x ∷ z ∷ []))
    pushed [] = refl
    pushed (i ∷ all) = ap (λ (y : Parsed). of p.next_identifier (word ∷ name_of i ∷ y ∷ [])) (pushed all)

pub names_next : (ts rest past : List Lexeme) (all more : List Identifier) (first : Identifier) (others : List Identifier) (x : Identifier) → begins k.Comma rest ≡ true → name_at (tail_of rest) ≡ Ok (name_of x, past) → length past ≤ length (tail_of rest) → all ≡ first ∷ others → more ≡ all ++ (x ∷ []) → NamesGo all rest ts → NamesGo more past ts
names_next ts rest past all more first others x b e l s m g =
    again k.Comma p.no_identifiers p.next_identifier name_at (λ (z : Parsed). identifiers_with all z) (λ (z : Parsed). identifiers_with more z) rest past (name_of x) (identifiers_at ts) b e l (λ z. rw (m, s) (names_pushed first others x z)) g

-- ---- groups of parameters

groups_pushed : (first : ParameterGroup) (others : List ParameterGroup) (x : ParameterGroup) (z : Parsed) → group_list ((first ∷ others) ++ (x ∷ [])) z ≡ group_list (first ∷ others) (of p.next_group (word ∷ of_group x ∷ z ∷ []))
groups_pushed first others x z = ap (λ (y : Parsed). (of_group first, y)) (pushed others)
  where
    pushed : (all : List ParameterGroup) → next_groups (all ++ (x ∷ [])) z ≡ next_groups all (of p.next_group (word ∷ of_group x ∷ z ∷ []))
    pushed [] = refl
    pushed (i ∷ all) = ap (λ (y : Parsed). of p.next_group (word ∷ of_group i ∷ y ∷ [])) (pushed all)

pub groups_start : (ts rest : List Lexeme) (all : List ParameterGroup) (x : ParameterGroup) → group_at ts ≡ Ok (of_group x, rest) → all ≡ x ∷ [] → GroupsGo all rest ts
unfolding group_list_at
groups_start ts rest all x e s =
    let whole : with_front (λ (z : Parsed). (of_group x, z)) (list_from k.Semicolon p.no_groups p.next_group group_at (length rest) rest) ≡ group_list_at ts = rw e refl in
    rw s (starts k.Semicolon p.no_groups p.next_group group_at (λ (z : Parsed). (of_group x, z)) rest (group_list_at ts) whole)

pub groups_next : (ts rest past : List Lexeme) (all more : List ParameterGroup) (first : ParameterGroup) (others : List ParameterGroup) (x : ParameterGroup) → begins k.Semicolon rest ≡ true → group_at (tail_of rest) ≡ Ok (of_group x, past) → length past ≤ length (tail_of rest) → all ≡ first ∷ others → more ≡ all ++ (x ∷ []) → GroupsGo all rest ts → GroupsGo more past ts
groups_next ts rest past all more first others x b e l s m g =
    again k.Semicolon p.no_groups p.next_group group_at (λ (z : Parsed). group_list all z) (λ (z : Parsed). group_list more z) rest past (of_group x) (group_list_at ts) b e l (λ z. rw (m, s) (groups_pushed first others x z)) g

-- ---- methods

methods_pushed : (all : List Method) (x : Method) (z : Parsed) → methods_with (all ++ (x ∷ [])) z ≡ methods_with all (of p.method (method_header_of x.header ∷ word ∷ virtual_of x.is_virtual ∷ z ∷ []))
methods_pushed [] x z = refl
methods_pushed (m ∷ all) x z = ap (λ (y : Parsed). of p.method (method_header_of m.header ∷ word ∷ virtual_of m.is_virtual ∷ y ∷ [])) (methods_pushed all x z)

pub methods_start : (d : ℕ) (ts : List Lexeme) (all : List Method) → all ≡ [] → MethodsGo d all ts ts
methods_start d ts all s = rw s (chain.starts (methods (inside d)) refl (λ (z : Parsed). z) ts (methods_at (inside d) ts) (chain.with_same (methods_at (inside d) ts)))

pub methods_next : (d : ℕ) (ts rest past : List Lexeme) (all more : List Method) (x : Method) → begins_method rest ≡ true → method_at (inside d) rest ≡ Ok ((method_header_of x.header, word, virtual_of x.is_virtual), past) → length past < length rest → more ≡ all ++ (x ∷ []) → MethodsGo d all rest ts → MethodsGo d more past ts
methods_next d ts rest past all more x b e l m g =
    chain.next (methods (inside d)) refl (λ (z : Parsed). methods_with all z) (λ (z : Parsed). methods_with more z) rest ((method_header_of x.header, word, virtual_of x.is_virtual), past) (methods_at (inside d) ts) b e l (λ z. rw m (methods_pushed all x z)) g

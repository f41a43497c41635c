-- One step of the loops over index types and fields.
use Rattle.std.proofs.Common.{◌≡◌, ℕ, zero, suc, ◌≤◌, ◌<◌, true, false, List, [], ◌∷◌, ◌++◌, length, Result, Ok, Err, refl, sym, ap, ◌∙◌, append_assoc, arith}
use Rattle.pascal_grammar.specs.declared.kind.Kind.TheVariants as k
use Rattle.pascal_grammar.specs.declared.lexeme.Lexeme.{Lexeme}
use Rattle.pascal_grammar.specs.Productions.{Production}
use Rattle.pascal_grammar.specs.Productions as p
use Rattle.ll1_grammar.specs.Readers.{Fault, ◌>>=◌}
use Rattle.syntax_tree.specs.Expressions.{Parsed, of, word}
use Rattle.expression_parser.specs.declared.error.ReadError.{ReadError}
use Rattle.expression_parser.specs.declared.error.ReadError.TheVariants as errors
use Rattle.expression_parser.specs.Gives.{Fails, Reads}
use Rattle.expression_parser.specs.Reading.{begins, tail_of, list_from}
use Rattle.expression_parser.specs.Views.{with_front}
use Rattle.expression_parser.proofs.Loop.{starts}
use Rattle.type_parser.proofs.parameter_parser.Listing.{again}
use Rattle.syntax_tree.specs.declared.type_tree.types.FieldGroup.{FieldGroup}
use Rattle.syntax_tree.specs.declared.type_tree.types.TypeDenoter.{TypeDenoter}
use Rattle.syntax_tree.specs.type_tree.Types.{of_type, next_index_types, index_type_list}
use Rattle.type_parser.specs.Reading.{Group, group_at, goes_on, groups_from, groups_at, type_at, index_list_at, typed_inside}
use Rattle.type_parser.specs.Views.{group_of, groups_of}
use Rattle.type_parser.proofs.Going.{IndexesGo, before, Continues, GroupsGo}

-- ---- index types

pushed : (all : List TypeDenoter) (x : TypeDenoter) (z : Parsed) → next_index_types (all ++ (x ∷ [])) z ≡ next_index_types all (of p.next_index_type (word ∷ of_type x ∷ z ∷ []))
pushed [] x z = refl
pushed (y ∷ all) x z = ap (λ (w : Parsed). of p.next_index_type (word ∷ of_type y ∷ w ∷ [])) (pushed all x z)

indexes_pushed : (first : TypeDenoter) (others : List TypeDenoter) (x : TypeDenoter) (z : Parsed) → index_type_list ((first ∷ others) ++ (x ∷ [])) z ≡ index_type_list (first ∷ others) (of p.next_index_type (word ∷ of_type x ∷ z ∷ []))
indexes_pushed first others x z = ap (λ (y : Parsed). (of_type first, y)) (pushed others x z)

pub indexes_start : (d : ℕ) (ts rest : List Lexeme) (all : List TypeDenoter) (x : TypeDenoter) → type_at d (typed_inside d) ts ≡ Ok (of_type x, rest) → all ≡ x ∷ [] → IndexesGo d all rest ts
unfolding index_list_at
indexes_start d ts rest all x e s =
    let whole : with_front (λ (z : Parsed). (of_type x, z)) (list_from k.Comma p.no_index_types p.next_index_type (type_at d (typed_inside d)) (length rest) rest) ≡ index_list_at d (typed_inside d) ts = rw e refl in
    rw s (starts k.Comma p.no_index_types p.next_index_type (type_at d (typed_inside d)) (λ (z : Parsed). (of_type x, z)) rest (index_list_at d (typed_inside d) ts) whole)

pub indexes_next : (d : ℕ) (ts rest past : List Lexeme) (all more : List TypeDenoter) (first : TypeDenoter) (others : List TypeDenoter) (x : TypeDenoter) → begins k.Comma rest ≡ true → type_at d (typed_inside d) (tail_of rest) ≡ Ok (of_type x, past) → length past ≤ length (tail_of rest) → all ≡ first ∷ others → more ≡ all ++ (x ∷ []) → IndexesGo d all rest ts → IndexesGo d more past ts
indexes_next d ts rest past all more first others x b e l s m g =
    again k.Comma p.no_index_types p.next_index_type (type_at d (typed_inside d)) (λ (z : Parsed). index_type_list all z) (λ (z : Parsed). index_type_list more z) rest past (of_type x) (index_list_at d (typed_inside d) ts) b e l (λ z. rw (m, s) (indexes_pushed first others x z)) g

-- ---- fields

abbrev Read : Type 0
Read = Result (List Group × List Lexeme) (Fault Production)

groups_pushed : (all : List FieldGroup) (x : FieldGroup) → groups_of (all ++ (x ∷ [])) ≡ groups_of all ++ (group_of x ∷ [])
groups_pushed [] x = refl
groups_pushed (y ∷ all) x = ap (λ (l : List Group). group_of y ∷ l) (groups_pushed all x)

nothing_behind : (all : List Group) → all ++ [] ≡ all
nothing_behind [] = refl
nothing_behind (x ∷ all) = ap (λ (l : List Group). x ∷ l) (nothing_behind all)

one_more : (all : List Group) (x : Group) (read : Read) → before all (read >>= λ y. Ok (x ∷ y.0, y.1)) ≡ before (all ++ (x ∷ [])) read
one_more all x (Ok y) = ap (λ (l : List Group). Ok (l, y.1)) (sym (append_assoc all (x ∷ []) y.0))
one_more all x (Err f) = refl

module _ (type_at : Reads) where
  step : (all : List Group) (i : ℕ) (rest past : List Lexeme) (x : Group) → goes_on rest ≡ true → group_at type_at (tail_of rest) ≡ Ok (x, past) → before all (groups_from type_at (suc i) rest) ≡ before (all ++ (x ∷ [])) (groups_from type_at i past)
  unfolding groups_from
  step all i rest past x b e = rw (b, e) (one_more all x (groups_from type_at i past))

  next_at : (all : List Group) (rest past : List Lexeme) (x : Group) (total : Read) (i : ℕ) → goes_on rest ≡ true → group_at type_at (tail_of rest) ≡ Ok (x, past) → length past < length rest → length rest ≤ i → before all (groups_from type_at i rest) ≡ total → Continues type_at (all ++ (x ∷ [])) past total
  next_at all rest past x total zero b e l h i = absurd (omega arith)
  next_at all rest past x total (suc n) b e l h i = record { count = n; enough = omega arith; is = sym (step all n rest past x b e) ∙ i }

  error_at : (f : Fault Production) (all : List Group) (rest : List Lexeme) (total : Read) (n : ℕ) → goes_on rest ≡ true → group_at type_at (tail_of rest) ≡ Err f → length rest ≤ n → before all (groups_from type_at n rest) ≡ total → total ≡ Err f
  unfolding groups_from
  error_at f all [] total n b e h i = absurd cc
  error_at f all (t ∷ ts) total zero b e h i = absurd (omega arith)
  error_at f all rest total (suc n) b e h i =
      let s : before all (groups_from type_at (suc n) rest) ≡ Err f = rw (b, e) refl in
      sym i ∙ s

  pub groups_fail : (e : ReadError) (all : List Group) (rest : List Lexeme) (total : Read) → goes_on rest ≡ true → Fails e (group_at type_at (tail_of rest)) → Continues type_at all rest total → Fails e total
  groups_fail errors.NoMemory all rest total b f g = tt
  groups_fail (errors.Syntax n) all rest total b f g = error_at _ all rest total g.count b f g.enough g.is
  groups_fail (errors.LeftOut o n) all rest total b f g = error_at _ all rest total g.count b f g.enough g.is
  groups_fail (errors.TooDeep n) all rest total b f g = error_at _ all rest total g.count b f g.enough g.is

  ends_at : (all : List Group) (rest : List Lexeme) (total : Read) (n : ℕ) → goes_on rest ≡ false → before all (groups_from type_at n rest) ≡ total → total ≡ Ok (all, rest)
  unfolding groups_from
  ends_at all rest total zero b i = sym i ∙ ap (λ (l : List Group). Ok (l, rest)) (nothing_behind all)
  ends_at all rest total (suc n) b i =
      let s : before all (groups_from type_at (suc n) rest) ≡ Ok (all ++ [], rest) = rw b refl in
      sym i ∙ s ∙ ap (λ (l : List Group). Ok (l, rest)) (nothing_behind all)

  pub groups_end : (all : List Group) (rest : List Lexeme) (total : Read) → goes_on rest ≡ false → Continues type_at all rest total → total ≡ Ok (all, rest)
  groups_end all rest total b g = ends_at all rest total g.count b g.is

pub falls : (rest past : List Lexeme) → goes_on rest ≡ true → length past ≤ length (tail_of rest) → length past < length rest
falls [] past b l = absurd cc
falls (x ∷ xs) past b l = omega arith

pub groups_start : (d : ℕ) (ts rest : List Lexeme) (all : List FieldGroup) (x : FieldGroup) → group_at (type_at d (typed_inside d)) ts ≡ Ok (group_of x, rest) → all ≡ x ∷ [] → GroupsGo d all rest ts
unfolding groups_at
groups_start d ts rest all x e s =
    let whole : before (group_of x ∷ []) (groups_from (type_at d (typed_inside d)) (length rest) rest) ≡ groups_at (type_at d (typed_inside d)) ts = rw e refl in
    rw s (record { count = length rest; enough = omega arith; is = whole })

pub groups_next : (d : ℕ) (ts rest past : List Lexeme) (all more : List FieldGroup) (x : FieldGroup) → goes_on rest ≡ true → group_at (type_at d (typed_inside d)) (tail_of rest) ≡ Ok (group_of x, past) → length past ≤ length (tail_of rest) → more ≡ all ++ (x ∷ []) → GroupsGo d all rest ts → GroupsGo d more past ts
groups_next d ts rest past all more x b e l m g =
    let n = next_at (type_at d (typed_inside d)) (groups_of all) rest past (group_of x) (groups_at (type_at d (typed_inside d)) ts) g.count b e (falls rest past b l) g.enough g.is in
    rw (m, groups_pushed all x) n

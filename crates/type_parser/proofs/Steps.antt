-- The last step of each list inside a type.
use Rattle.std.proofs.Common.{◌≡◌, ℕ, suc, ◌≤◌, Bool, true, false, cond, List, [], ◌∷◌, length, Some, None, Result, Ok, Err, refl, sym, ap, subst, ◌∙◌, arith}
use Rattle.pascal_grammar.specs.declared.kind.Kind.{Kind}
use Rattle.pascal_grammar.specs.declared.kind.Kind.TheVariants as k
use Rattle.pascal_grammar.specs.declared.lexeme.Lexeme.{Lexeme}
use Rattle.pascal_grammar.specs.Asked.{same}
use Rattle.pascal_grammar.specs.Asked as q
use Rattle.pascal_grammar.specs.Lexemes.{kind_of}
use Rattle.pascal_grammar.specs.Lexemes as v
use Rattle.pascal_grammar.specs.Parts as n
use Rattle.pascal_grammar.specs.Productions.{Production}
use Rattle.pascal_grammar.specs.Productions as p
use Rattle.pascal_grammar.proofs.Reading.{Reads}
use Rattle.ll1_grammar.specs.Readers.{Fault, ◌>>=◌, kept_by}
use Rattle.syntax_tree.specs.Expressions.{Parsed, of, word}
use Rattle.expression_parser.specs.declared.error.ReadError.{ReadError}
use Rattle.expression_parser.specs.Gives.{Fails, ask}
use Rattle.expression_parser.specs.Gives as g
use Rattle.expression_parser.proofs.Exact.{no_longer}
use Rattle.expression_parser.specs.Reading.{begins}
use Rattle.type_parser.specs.parameter_parser.Reading.{identifiers_at}
use Rattle.type_parser.proofs.parameter_parser.Bracketed.{closes, bracketed, bracketed_stop, bracketed_open, bracketed_end}
use Rattle.type_parser.proofs.parameter_parser.Results.{bind_ok}
use Rattle.type_parser.proofs.parameter_parser.Sound.{identifiers_reads}
use Rattle.syntax_tree.specs.declared.type_tree.parameter.Method.{Method}
use Rattle.syntax_tree.specs.declared.type_tree.types.FieldGroup.{FieldGroup}
use Rattle.syntax_tree.specs.type_tree.Types.{last_record_part, last_object_part}
use Rattle.type_parser.specs.Reading.{Group, group_at, groups_from, groups_at, with_groups, begins_name, fields_end_at, fields_by, fields_at, object_end_at, object_part_by, object_part_at, type_at, more_index_types_at, index_list_at, index_types_by, index_types_at, typed_inside}
use Rattle.type_parser.specs.Views.{groups_of, fields_of, object_part_of}
use Rattle.type_parser.proofs.Each.{Outcome}
use Rattle.type_parser.proofs.Sound.{type_reads}

-- ---- what is left is no more than there was

pub type_short : (d : ℕ) (ts : List Lexeme) (x : Parsed × List Lexeme) → type_at d (typed_inside d) ts ≡ Ok x → length x.1 ≤ length ts
type_short d ts x e = no_longer n.type d ts x (subst (λ (r : Outcome). Reads n.type d ts r) e (type_reads d ts))

names_short : (ts : List Lexeme) (x : Parsed × List Lexeme) → identifiers_at ts ≡ Ok x → length x.1 ≤ length ts
names_short ts x e = no_longer n.identifiers 0 ts x (subst (λ (r : Outcome). Reads n.identifiers 0 ts r) e (identifiers_reads 0 ts))

colon_tail : (c : Bool) (x : Lexeme) (ts : List Lexeme) (y : Parsed × List Lexeme) → kept_by {P = Production} (cond c (Some v.nothing) None) x ts ≡ Ok y → length y.1 ≤ length ts
colon_tail false x ts y e = absurd cc
colon_tail true x ts y e = let i : (word, ts) ≡ y = cc in let j : ts ≡ y.1 = ap (λ (z : Parsed × List Lexeme). z.1) i in rw (← j) (omega arith)

colon_short : (ts : List Lexeme) (x : Parsed × List Lexeme) → ask (q.word k.Colon) ts ≡ Ok x → length x.1 ≤ length ts
colon_short [] x e = absurd cc
colon_short (t ∷ ts) x e = let l = colon_tail (same (kind_of t) k.Colon) t ts x e in omega arith

abbrev three : Parsed → Parsed → Parsed × List Lexeme → Result (Group × List Lexeme) (Fault Production)
three a w t = Ok ((a, w, t.0), t.1)

pub group_short : (d : ℕ) (ts : List Lexeme) (x : Group × List Lexeme) → group_at (type_at d (typed_inside d)) ts ≡ Ok x → length x.1 ≤ length ts
unfolding group_at
group_short d ts x e =
    let a = bind_ok (identifiers_at ts) (λ i. ask (q.word k.Colon) i.1 >>= λ w. type_at d (typed_inside d) w.1 >>= three i.0 w.0) x e in
    let b = bind_ok (ask (q.word k.Colon) a.0.1) (λ w. type_at d (typed_inside d) w.1 >>= three a.0.0 w.0) x a.2 in
    let c = bind_ok (type_at d (typed_inside d) b.0.1) (three a.0.0 b.0.0) x b.2 in
    let l = names_short ts a.0 a.1 in
    let m = colon_short a.0.1 b.0 b.1 in
    let o = type_short d b.0.1 c.0 c.1 in
    let i : ((a.0.0, b.0.0, c.0.0), c.0.1) ≡ x = cc in
    let j : c.0.1 ≡ x.1 = ap (λ (z : Group × List Lexeme). z.1) i in
    rw (← j) (omega arith)

-- ---- index types in brackets

-- the word that was read stands in front
pub opens : (want : Kind) (ts us : List Lexeme) → ask (q.word want) ts ≡ Ok (word, us) → begins want ts ≡ true
opens want [] us e = absurd cc
opens want (x ∷ ts) us e = by (same (kind_of x) want) e
  where
    by : (b : Bool) → kept_by {P = Production} (cond b (Some v.nothing) None) x ts ≡ Ok (word, us) → b ≡ true
    by true e = refl
    by false e = absurd cc

module _ (d : ℕ) where
  abbrev first : g.Reads
  first = type_at d (typed_inside d)

  abbrev others : g.Reads
  others = more_index_types_at d (typed_inside d)

  abbrev bracket : g.Reads
  bracket = ask (q.word k.CloseBracket)

  indexes_read : (e : ℕ) (ts us : List Lexeme) → e ≡ suc d → begins k.OpenBracket ts ≡ true → ask (q.word k.OpenBracket) ts ≡ Ok (word, us) → index_types_at (typed_inside e) ts ≡ (index_list_at d (typed_inside d) us >>= closes p.index_types bracket first others)
  unfolding index_types_by index_list_at typed_inside
  indexes_read e ts us l b a = rw (l, b) (bracketed p.index_types bracket first others (ask (q.word k.OpenBracket)) ts us a)

  pub indexes_stop : (r : ReadError) (e : ℕ) (ts us : List Lexeme) → e ≡ suc d → ask (q.word k.OpenBracket) ts ≡ Ok (word, us) → Fails r (index_list_at d (typed_inside d) us) → Fails r (index_types_at (typed_inside e) ts)
  unfolding index_list_at
  indexes_stop r e ts us l a h = subst (λ (z : Outcome). Fails r z) (sym (indexes_read e ts us l (opens k.OpenBracket ts us a) a)) (bracketed_stop p.index_types bracket first others r us h)

  pub indexes_open : (r : ReadError) (e : ℕ) (ts us vs : List Lexeme) (x : Parsed × Parsed) → e ≡ suc d → ask (q.word k.OpenBracket) ts ≡ Ok (word, us) → index_list_at d (typed_inside d) us ≡ Ok (x, vs) → Fails r (bracket vs) → Fails r (index_types_at (typed_inside e) ts)
  unfolding index_list_at
  indexes_open r e ts us vs x l a c h = subst (λ (z : Outcome). Fails r z) (sym (indexes_read e ts us l (opens k.OpenBracket ts us a) a)) (bracketed_open p.index_types bracket first others r us vs x c h)

  pub indexes_end : (e : ℕ) (ts us vs ws : List Lexeme) (x : Parsed × Parsed) → e ≡ suc d → ask (q.word k.OpenBracket) ts ≡ Ok (word, us) → index_list_at d (typed_inside d) us ≡ Ok (x, vs) → bracket vs ≡ Ok (word, ws) → index_types_at (typed_inside e) ts ≡ Ok (of p.index_types (word ∷ x.0 ∷ x.1 ∷ word ∷ []), ws)
  unfolding index_list_at
  indexes_end e ts us vs ws x l a c h = indexes_read e ts us l (opens k.OpenBracket ts us a) a ∙ bracketed_end p.index_types bracket first others us vs ws x c h

-- ---- fields, of which there is at least one group

abbrev read_of : List Group → List Lexeme → Result (List Group × List Lexeme) (Fault Production)
read_of all us = Ok (all, us)

no_first : (x : Group) (all : List Group) → x ∷ all ≡ [] → ⊥
no_first x all e = absurd cc

some_more : (x : Group) (r : Result (List Group × List Lexeme) (Fault Production)) (us : List Lexeme) → (r >>= λ y. Ok (x ∷ y.0, y.1)) ≡ read_of [] us → ⊥
some_more x (Ok y) us e = let i : (x ∷ y.0, y.1) ≡ ([], us) = cc in no_first x y.0 (ap (λ (w : List Group × List Lexeme). w.0) i)
some_more x (Err f) us e = absurd cc

some_first : (type_at : g.Reads) (r : Result (Group × List Lexeme) (Fault Production)) (us : List Lexeme) → (r >>= λ x. groups_from type_at (length x.1) x.1 >>= λ y. Ok (x.0 ∷ y.0, y.1)) ≡ read_of [] us → ⊥
some_first type_at (Ok x) us e = some_more x.0 (groups_from type_at (length x.1) x.1) us e
some_first type_at (Err f) us e = absurd cc

some_groups : (type_at : g.Reads) (ts us : List Lexeme) → groups_at type_at ts ≡ Ok ([], us) → ⊥
unfolding groups_at
some_groups type_at ts us e = some_first type_at (group_at type_at ts) us e

fields_are : (type_at : g.Reads) (ts us : List Lexeme) (all : List FieldGroup) (b : Bool) → groups_at type_at ts ≡ Ok (groups_of all, us) → with_groups p.fields p.next_fields (groups_of all) (last_record_part b) ≡ fields_of all b
fields_are type_at ts us [] b e = absurd (some_groups type_at ts us e)
fields_are type_at ts us (x ∷ all) b e = refl

pub fields_end : (type_at : g.Reads) (ts us vs : List Lexeme) (all : List FieldGroup) (b : Bool) → begins_name ts ≡ true → groups_at type_at ts ≡ Ok (groups_of all, us) → fields_end_at us ≡ Ok (last_record_part b, vs) → fields_at type_at ts ≡ Ok (fields_of all b, vs)
unfolding fields_by
fields_end type_at ts us vs all b n e f =
    let read : fields_at type_at ts ≡ Ok (with_groups p.fields p.next_fields (groups_of all) (last_record_part b), vs) = rw (n, e, f) refl in
    read ∙ ap (λ (z : Parsed). Ok (z, vs)) (fields_are type_at ts us all b e)

object_is : (type_at : g.Reads) (ts us : List Lexeme) (all : List FieldGroup) (b : Bool) (methods : List Method) → groups_at type_at ts ≡ Ok (groups_of all, us) → with_groups p.object_fields p.next_object_part (groups_of all) (last_object_part b methods) ≡ object_part_of all b methods
object_is type_at ts us [] b methods e = absurd (some_groups type_at ts us e)
object_is type_at ts us (x ∷ all) b methods e = refl

pub object_end : (d : ℕ) (type_at : g.Reads) (ts us vs : List Lexeme) (all : List FieldGroup) (b : Bool) (methods : List Method) → begins_name ts ≡ true → groups_at type_at ts ≡ Ok (groups_of all, us) → object_end_at d us ≡ Ok (last_object_part b methods, vs) → object_part_at d type_at ts ≡ Ok (object_part_of all b methods, vs)
unfolding object_part_by
object_end d type_at ts us vs all b methods n e f =
    let read : object_part_at d type_at ts ≡ Ok (with_groups p.object_fields p.next_object_part (groups_of all) (last_object_part b methods), vs) = rw (n, e, f) refl in
    read ∙ ap (λ (z : Parsed). Ok (z, vs)) (object_is type_at ts us all b methods e)

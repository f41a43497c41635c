-- Simple expressions that the grammar spells in other productions are read back.
use Rattle.std.proofs.Common.{◌≡◌, [], ◌∷◌, refl}
use Rattle.tp_check_decl.specs.pascal_grammar.declared.lexeme.Position.{Position}
use Rattle.tp_check_decl.specs.syntax_tree.Expressions.{Parsed, word}
use Rattle.tp_check_decl.specs.syntax_tree.type_tree.Regrouped.{range_of, value_of, first_value}
use Rattle.tp_check_decl.specs.ll1_grammar.whole_trees.Whole.{IsWhole}
use Rattle.address_independence.specs.yields.Written as w
use Rattle.address_independence.specs.yields.Reading.{meant}
use Rattle.address_independence.proofs.yields.Shapes.{absent, present, lost, kept, uncalled, called, group, closed, control, named, IsSimple, unsigned, signed}

-- ---- subranges

abbrev pub spelled_range : Parsed → Parsed → Parsed
spelled_range low high = range_of low (word ∷ high ∷ [])

pub range_regrouped : (low high : Parsed) → IsSimple low → IsWhole (spelled_range low high) → (meant (spelled_range low high)).denoter ≡ w.range (meant low).tree (meant high).tree
range_regrouped low high (signed mark t us) h = refl
range_regrouped low high (unsigned f fs us (group a b c) k l) h = absurd h
range_regrouped low high (unsigned f fs us (closed x) k l) h = refl
range_regrouped low high (unsigned f fs us (control a b) (present x) l) h = refl
range_regrouped low high (unsigned f fs us (control a b) absent (present x)) h = refl
range_regrouped low high (unsigned f fs us (control a b) absent absent) h = refl
range_regrouped low high (unsigned f fs us (named a s c lost m) k l) h = absurd h.1.0
range_regrouped low high (unsigned f fs us (named a s c (kept s' (present x)) m) k l) h = refl
range_regrouped low high (unsigned f fs us (named a s c (kept s' absent) (called x y)) k l) h = refl
range_regrouped low high (unsigned f fs us (named a s c (kept s' absent) uncalled) (present x) l) h = refl
range_regrouped low high (unsigned f fs us (named a s c (kept s' absent) uncalled) absent (present x)) h = refl
range_regrouped low high (unsigned f fs us (named a s c (kept s' absent) uncalled) absent absent) h = refl

pub range_whole : (low high : Parsed) → IsSimple low → IsWhole (spelled_range low high) → IsWhole low × IsWhole high
range_whole low high (signed mark t us) h = ((tt, (h.1.0, (h.1.1.0, tt))), h.1.1.1.1.0)
range_whole low high (unsigned f fs us (group a b c) k l) h = absurd h
range_whole low high (unsigned f fs us (closed x) k l) h = (((((h.0, tt), tt), (h.1.0, tt)), (h.1.1.0, tt)), h.1.1.1.1.0)
range_whole low high (unsigned f fs us (control a b) (present x) l) h =
    let r = h.1.0.1.0 in
    (((((h.0, (h.1.0.0, tt)), tt), ((r.0, tt), tt)), (r.1.0, tt)), r.1.1.1.0)
range_whole low high (unsigned f fs us (control a b) absent (present x)) h =
    let r = h.1.0.1.0 in
    (((((h.0, (h.1.0.0, tt)), tt), (tt, tt)), ((r.0, tt), tt)), r.1.1.0)
range_whole low high (unsigned f fs us (control a b) absent absent) h =
    let r = h.1.0.1.0 in
    (((((h.0, (h.1.0.0, tt)), tt), (tt, tt)), (tt, tt)), r.1.0)
range_whole low high (unsigned f fs us (named a s c lost m) k l) h = absurd h.1.0
range_whole low high (unsigned f fs us (named a s c (kept s' (present x)) m) k l) h =
    let r = h.1.0 in
    (((((h.0, ((r.0, tt), (r.1.0, tt))), tt), (r.1.1.0, tt)), (r.1.1.1.0, tt)), r.1.1.1.1.1.0)
range_whole low high (unsigned f fs us (named a s c (kept s' absent) (called x y)) k l) h =
    let r = h.1.0 in
    (((((h.0, (tt, ((r.0, (r.1.0, tt)), tt))), tt), (r.1.1.0, tt)), (r.1.1.1.0, tt)), r.1.1.1.1.1.0)
range_whole low high (unsigned f fs us (named a s c (kept s' absent) uncalled) (present x) l) h =
    let r = h.1.0 in
    (((((h.0, (tt, (tt, tt))), tt), ((r.0, tt), tt)), (r.1.0, tt)), r.1.1.1.0)
range_whole low high (unsigned f fs us (named a s c (kept s' absent) uncalled) absent (present x)) h =
    let r = h.1.0 in
    (((((h.0, (tt, (tt, tt))), tt), (tt, tt)), ((r.0, tt), tt)), r.1.1.0)
range_whole low high (unsigned f fs us (named a s c (kept s' absent) uncalled) absent absent) h =
    let r = h.1.0 in
    (((((h.0, (tt, (tt, tt))), tt), (tt, tt)), (tt, tt)), r.1.0)

-- ---- first values

pub value_regrouped : (one : Parsed) → IsSimple one → IsWhole (value_of one) → (meant (value_of one)).first ≡ w.value (meant one).tree
value_regrouped one (signed mark t us) h = refl
value_regrouped one (unsigned f fs us (group a b c) k l) h = absurd h
value_regrouped one (unsigned f fs us (closed x) k l) h = refl
value_regrouped one (unsigned f fs us (control a b) k l) h = refl
value_regrouped one (unsigned f fs us (named a s c m n) k l) h = refl

pub value_whole : (one : Parsed) → IsSimple one → IsWhole (value_of one) → IsWhole one
value_whole one (signed mark t us) h = h
value_whole one (unsigned f fs us (group a b c) k l) h = absurd h
value_whole one (unsigned f fs us (closed x) k l) h = (((h.0, tt), (h.1.0, tt)), (h.1.1.0, tt))
value_whole one (unsigned f fs us (control a b) k l) h = (((h.0, tt), (h.1.0, tt)), (h.1.1.0, tt))
value_whole one (unsigned f fs us (named a s c m n) k l) h = (((h.0, tt), (h.1.0, tt)), (h.1.1.0, tt))

-- ---- the first of several

pub first_regrouped : (one more close : Parsed) (here : Position) → IsSimple one → IsWhole (first_value (value_of one) more close) → (meant (first_value (value_of one) more close)).opened here ≡ w.list here.place (w.and_initial (w.value (meant one).tree) (meant more).firsts)
first_regrouped one more close here (signed mark t us) h = refl
first_regrouped one more close here (unsigned f fs us (group a b c) k l) h = absurd h
first_regrouped one more close here (unsigned f fs us (closed x) k l) h = refl
first_regrouped one more close here (unsigned f fs us (control a b) k l) h = refl
first_regrouped one more close here (unsigned f fs us (named a s c m n) k l) h = refl

pub first_whole : (one more close : Parsed) → IsSimple one → IsWhole (first_value (value_of one) more close) → IsWhole one × IsWhole more
first_whole one more close (signed mark t us) h = ((tt, (h.1.0, (h.1.1.0, tt))), h.1.1.1.0)
first_whole one more close (unsigned f fs us (group a b c) k l) h = absurd h
first_whole one more close (unsigned f fs us (closed x) k l) h = (((((h.0, tt), tt), (h.1.0, tt)), (h.1.1.0, tt)), h.1.1.1.0)
first_whole one more close (unsigned f fs us (control a b) k l) h =
    (((((h.0, (h.1.0, tt)), tt), (h.1.1.0, tt)), (h.1.1.1.0, tt)), h.1.1.1.1.0)
first_whole one more close (unsigned f fs us (named a s c m n) k l) h =
    let r = h.1.0 in
    (((((h.0, (r.0, (r.1.0, tt))), tt), (r.1.1.0, tt)), (r.1.1.1.0, tt)), r.1.1.1.1.0)

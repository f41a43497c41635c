-- The laws of the store, of texts and of blocks.
use Rattle.std.proofs.Common.{◌≡◌, ◌≢◌, ℕ, zero, suc, ◌+◌, ◌<◌, ◌≤◌, Bool, true, false, List, [], ◌∷◌, ◌++◌, length, Option, Some, None, refl, sym, ap, subst, ◌∙◌, arith, nat_lt, nat_le, inl, inr}
use Rattle.std.specs.Prelude.{if◌then◌else◌, Ok, Err, take, slice_get, slice_set}
use Rattle.std.specs.Option.{option_flatten}
use Rattle.std.specs.Prelude.{min, ◌⊎◌}
use Rattle.std.proofs.lemmas.Bool.{cases_lt, le-leb, eq-eqb}
use Rattle.std.proofs.lemmas.List.{length-take}
use Rattle.std.proofs.lemmas.Option.{slice_get_past}
use Rattle.common_values.specs.Blocks.{rounded, block_sum}
use Rattle.common_values.proofs.BlockLemmas.{sum_laws}
use Rattle.typed_tree.specs.declared.units.Program.{Program}
use Rattle.tp_meaning.specs.Trees.{Spot, Tree, Leaf, Tip, Fork, part_at, with_part, part_count}
use Rattle.tp_meaning.specs.Found.{Act, Error, Found, ◌>>=◌, known}
use Rattle.tp_meaning.specs.Store.{Object, Store, next_serial, object_at, with_object, without, tree_in, tree_at, replaced_in, replaced, byte_in, bytes_in, text_of_length, text_in, length_within, length_in, bytes_over, without_row, disposed_in, disposed}
use Rattle.tp_meaning.specs.Programs.{Sort, size_in, heap_of}
use Rattle.tp_meaning.specs.Shapes.{new_tree}
use Rattle.tp_meaning.specs.Standard.{with_new_block}
use Rattle.tp_meaning.specs.Laws.{StoreLaws, TextLaws, HeapLaws}

-- ---- lists of objects

set_here : {X : Type 0} (xs : List X) (i : ℕ) (x v : X) → slice_get xs i ≡ Some x → slice_get (slice_set xs i v) i ≡ Some v
set_here [] i x v p = absurd (cc p)
set_here (y ∷ xs) zero x v p = refl
set_here (y ∷ xs) (suc i) x v p = set_here xs i x v p

set_other : {X : Type 0} (xs : List X) (i j : ℕ) (v : X) → j ≢ i → slice_get (slice_set xs i v) j ≡ slice_get xs j
set_other [] i j v p = refl
set_other (y ∷ xs) zero zero v p = absurd (p refl)
set_other (y ∷ xs) zero (suc j) v p = refl
set_other (y ∷ xs) (suc i) zero v p = refl
set_other (y ∷ xs) (suc i) (suc j) v p = set_other xs i j v (λ e. p (ap suc e))

set_past : {X : Type 0} (xs : List X) (i : ℕ) (v : X) → slice_get xs i ≡ None → slice_get (slice_set xs i v) i ≡ None
set_past [] i v p = refl
set_past (y ∷ xs) zero v p = absurd (cc p)
set_past (y ∷ xs) (suc i) v p = set_past xs i v p

-- ---- places

part_put : (tree part old : Tree) (path : List ℕ) → part_at tree path ≡ Some old → part_at (with_part tree path part) path ≡ Some part
part_put tree part old [] p = refl
part_put (Fork head tail) part old (zero ∷ path) p = part_put head part old path p
part_put (Fork head tail) part old (suc n ∷ path) p = part_put tail part old (n ∷ path) p
part_put (Leaf cell) part old (n ∷ path) p = absurd (cc p)
part_put Tip part old (n ∷ path) p = absurd (cc p)

-- ---- what is put to a place

abbrev ok_is : {A : Type 0} → A → Found A → A
ok_is d (Ok x) = x
ok_is d (Err trap) = d

abbrev Same : {A : Type 0} → Found A → Found A → Type 0
Same a b = a ≡ b

ok_same : {A : Type 0} (x y : A) → Same (Ok x) (Ok y) → x ≡ y
ok_same x y e = ap (ok_is x) e

-- the store with another tree at a place of an object
put : Store → Spot → Tree → Object → Store
put store spot tree object = with_object store spot.object (Some (record { tree = with_part object.tree spot.path tree; bytes = object.bytes }))

put_here : (store : Store) (spot : Spot) (tree : Tree) (object : Object) (old : Tree) → slice_get store.objects spot.object ≡ Some (Some object) → part_at object.tree spot.path ≡ Some old → tree_at (put store spot tree object) spot ≡ Ok tree
unfolding put
put_here store spot tree object old p q =
    let new : Object = record { tree = with_part object.tree spot.path tree; bytes = object.bytes } in
    ap (λ o. tree_in (option_flatten o) spot.path) (set_here store.objects spot.object (Some object) (Some new) p)
    ∙ ap known (part_put object.tree tree old spot.path q)

put_other : (store : Store) (spot : Spot) (tree : Tree) (object : Object) (serial : ℕ) → serial ≢ spot.object → object_at (put store spot tree object) serial ≡ object_at store serial
unfolding put
put_other store spot tree object serial p =
    ap option_flatten (set_other store.objects spot.object serial (Some (record { tree = with_part object.tree spot.path tree; bytes = object.bytes })) p)

-- a place that is there has an object, and the store after is the one with the tree put
record IsPut (store : Store) (spot : Spot) (tree : Tree) (after : Store) : Type 0 where
  object : Object
  old : Tree
  there : slice_get store.objects spot.object ≡ Some (Some object)
  part : part_at object.tree spot.path ≡ Some old
  is : put store spot tree object ≡ after

is_put_part : (store : Store) (spot : Spot) (tree : Tree) (after : Store) (object : Object) (q : Option Tree) → slice_get store.objects spot.object ≡ Some (Some object) → part_at object.tree spot.path ≡ q → (known q >>= λ old. Ok (put store spot tree object)) ≡ Ok after → IsPut store spot tree after
is_put_part store spot tree after object None p r e = absurd (cc e)
is_put_part store spot tree after object (Some old) p r e = record { object = object; old = old; there = p; part = r; is = ok_same (put store spot tree object) after e }

is_put_in : (store : Store) (spot : Spot) (tree : Tree) (after : Store) (o : Option (Option Object)) → slice_get store.objects spot.object ≡ o → replaced_in store spot tree (option_flatten o) ≡ Ok after → IsPut store spot tree after
unfolding put
is_put_in store spot tree after None p e = absurd (cc e)
is_put_in store spot tree after (Some None) p e = absurd (cc e)
is_put_in store spot tree after (Some (Some object)) p e = is_put_part store spot tree after object (part_at object.tree spot.path) p refl e

is_put : (store : Store) (spot : Spot) (tree : Tree) (after : Store) → replaced store spot tree ≡ Ok after → IsPut store spot tree after
is_put store spot tree after e = is_put_in store spot tree after (slice_get store.objects spot.object) refl e

-- ---- what is gone

without_stay : (store : Store) (first count serial : ℕ) → serial < first → object_at (without store first count) serial ≡ object_at store serial
without_stay store first zero serial p = refl
without_stay store first (suc count) serial p =
    without_stay (with_object store first None) (first + 1) count serial (omega arith)
    ∙ ap option_flatten (set_other store.objects first serial None (λ e. omega (arith, e)))

none_at : (objects : List (Option Object)) (serial : ℕ) (o : Option (Option Object)) → slice_get objects serial ≡ o → option_flatten (slice_get (slice_set objects serial None) serial) ≡ None
none_at objects serial None p = ap option_flatten (set_past objects serial None p)
none_at objects serial (Some object) p = ap option_flatten (set_here objects serial object None p)

-- the first of them, or one behind it
gone_by : (store : Store) (first count serial : ℕ) → (first < serial) ⊎ (serial ≤ first) → first ≤ serial → (first < serial → object_at (without (with_object store first None) (first + 1) count) serial ≡ None) → object_at (without (with_object store first None) (first + 1) count) serial ≡ None
gone_by store first count serial (inl l) p go = go l
gone_by store first count serial (inr l) p go =
    let e : first ≡ serial = omega (arith, l, p) in
    subst (λ n. object_at (without (with_object store first None) (first + 1) count) n ≡ None) e
    (without_stay (with_object store first None) (first + 1) count first (omega arith) ∙ none_at store.objects first (slice_get store.objects first) refl)

without_gone : (store : Store) (first count serial : ℕ) → first ≤ serial → serial < first + count → object_at (without store first count) serial ≡ None
without_gone store first zero serial p q = absurd (omega (arith, p, q))
without_gone store first (suc count) serial p q =
    gone_by store first count serial (cases_lt first serial) p (λ l. without_gone (with_object store first None) (first + 1) count serial (omega (arith, l)) (omega (arith, q)))

pub store_laws : (store : Store) → StoreLaws store
store_laws store = record {
  here = λ spot tree after e. let x = is_put store spot tree after e in subst (λ s. tree_at s spot ≡ Ok tree) x.is (put_here store spot tree x.object x.old x.there x.part);
  others = λ spot tree after serial e p. let x = is_put store spot tree after e in subst (λ s. object_at s serial ≡ object_at store serial) x.is (put_other store spot tree x.object serial p);
  gone = without_gone store;
  stay = without_stay store;
}

-- ---- texts

count_over : (bytes : List ℕ) (cells : Tree) → part_count (bytes_over bytes cells) ≡ part_count cells
count_over [] cells = refl
count_over (byte ∷ bytes) (Fork head tail) = ap (λ n. 1 + n) (count_over bytes tail)
count_over (byte ∷ bytes) Tip = refl
count_over (byte ∷ bytes) (Leaf cell) = refl

bytes_back : (bytes : List ℕ) (cells : Tree) → length bytes ≤ part_count cells → bytes_in (length bytes) (bytes_over bytes cells) ≡ Ok bytes
bytes_back [] cells p = refl
bytes_back (byte ∷ bytes) (Fork head tail) p = ap (λ r. r >>= λ rest. Ok (byte ∷ rest)) (bytes_back bytes tail (omega (arith, p)))
bytes_back (byte ∷ bytes) Tip p = absurd (omega (arith, p))
bytes_back (byte ∷ bytes) (Leaf cell) p = absurd (omega (arith, p))

text_back : (bytes : List ℕ) (cells : Tree) → length bytes ≤ part_count cells → text_of_length (length bytes) (bytes_over bytes cells) ≡ Ok bytes
text_back bytes cells p =
    let count = part_count (bytes_over bytes cells) in
    let e : nat_le (length bytes) count ≡ true = le-leb (length bytes) count (subst (λ n. length bytes ≤ n) (sym (count_over bytes cells)) p) in
    ap (λ b. if b then bytes_in (length bytes) (bytes_over bytes cells) else Err (Act 3)) e ∙ bytes_back bytes cells p

many_step : (bytes : List ℕ) (count : ℕ) (b : Found ℕ) (r : Found (List ℕ)) → ((rest : List ℕ) → Same r (Ok rest) → length rest ≡ count) → Same (b >>= λ byte. r >>= λ rest. Ok (byte ∷ rest)) (Ok bytes) → length bytes ≡ suc count
many_step bytes count (Ok byte) (Ok rest) same e = sym (ap length (ok_same (byte ∷ rest) bytes e)) ∙ ap suc (same rest refl)
many_step bytes count (Ok byte) (Err trap) same e = absurd (cc e)
many_step bytes count (Err trap) r same e = absurd (cc e)

-- so many bytes are found
bytes_many : (count : ℕ) (cells : Tree) (bytes : List ℕ) → Same (bytes_in count cells) (Ok bytes) → length bytes ≡ count
bytes_many zero cells bytes e = sym (ap length (ok_same [] bytes e))
bytes_many (suc count) (Fork head tail) bytes e = many_step bytes count (byte_in head) (bytes_in count tail) (bytes_many count tail) e
bytes_many (suc count) Tip bytes e = absurd (cc e)
bytes_many (suc count) (Leaf cell) bytes e = absurd (cc e)

within_measures : (count : ℕ) (cells : Tree) (bytes : List ℕ) (fits : Bool) → Same (if fits then bytes_in count cells else Err (Act 3)) (Ok bytes) → Same (if fits then Ok count else Err (Act 3)) (Ok (length bytes))
within_measures count cells bytes true e = ap Ok (sym (bytes_many count cells bytes e))
within_measures count cells bytes false e = absurd (cc e)

head_measures : (cells : Tree) (bytes : List ℕ) (b : Found ℕ) → Same (b >>= λ count. text_of_length count cells) (Ok bytes) → Same (b >>= λ count. length_within count cells) (Ok (length bytes))
head_measures cells bytes (Ok count) e = within_measures count cells bytes (nat_le count (part_count cells)) e
head_measures cells bytes (Err trap) e = absurd (cc e)

text_measures : (tree : Tree) (bytes : List ℕ) → Same (text_in tree) (Ok bytes) → Same (length_in tree) (Ok (length bytes))
text_measures (Fork head tail) bytes e = head_measures tail bytes (byte_in head) e
text_measures Tip bytes e = absurd (cc e)
text_measures (Leaf cell) bytes e = absurd (cc e)

pub text_laws : TextLaws
text_laws = record {
  shows = λ bytes head tail. text_back (take (part_count tail) bytes) tail
      (let e : length (take (part_count tail) bytes) ≡ min (part_count tail) (length bytes) = length-take (part_count tail) bytes in omega (arith, e));
  measures = text_measures;
}

-- ---- blocks

get_end : {X : Type 0} (xs : List X) (x : X) → slice_get (xs ++ x ∷ []) (length xs) ≡ Some x
get_end [] x = refl
get_end (y ∷ xs) x = get_end xs x

-- the heap had room
room : (store after : Store) (b : Bool) → (if b then Err (Error 203) else Ok store) ≡ Ok after → store ≡ after
room store after true e = absurd (cc e)
room store after false e = ok_same store after e

record IsFreed (store : Store) (serial bytes : ℕ) : Type 0 where
  after : Store
  is : disposed store serial bytes ≡ Ok after
  gone : object_at after serial ≡ None
  sum : block_sum after.rows ≡ block_sum store.rows

freed : (store : Store) (serial : ℕ) (object : Object) → slice_get store.objects serial ≡ Some (Some object) → IsFreed store serial object.bytes
freed store serial object p = record {
  after = without_row (with_object store serial None) object.bytes;
  is = ap (λ o. disposed_in store serial object.bytes (option_flatten o)) p
      ∙ ap (λ b. if b then Ok (without_row (with_object store serial None) object.bytes) else Err (Act 5)) (eq-eqb object.bytes object.bytes refl);
  gone = none_at store.objects serial (Some (Some object)) p;
  sum = sum_laws.stays (rounded object.bytes) store.rows;
}

pub heap_laws : (program : Program) (sort : Sort) (store : Store) → HeapLaws program sort store
heap_laws program sort store = record {
  fresh = ap option_flatten (slice_get_past store.objects (length store.objects) (omega arith));
  disposed = λ with_block e.
      let same : with_new_block store sort ≡ with_block = room (with_new_block store sort) with_block (nat_lt (heap_of program) (block_sum (with_new_block store sort).rows)) e in
      let object : Object = record { tree = new_tree sort.table.types sort.ty; bytes = size_in sort } in
      let done = freed (with_new_block store sort) (next_serial store) object (get_end store.objects (Some object)) in
      subst (λ s. (after : Store) × (disposed s (next_serial store) (size_in sort) ≡ Ok after) × (object_at after (next_serial store) ≡ None) × (block_sum after.rows ≡ block_sum s.rows)) same
      (done.after, done.is, done.gone, done.sum);
}

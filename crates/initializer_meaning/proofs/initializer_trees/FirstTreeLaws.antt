-- The meaning reads first values as the sources say them.
use Rattle.std.proofs.Common.{◌≡◌, ◌≤◌, ℕ, suc, ◌+◌, ◌/◌, Bool, true, false, cond, ◌&&◌, ◌||◌, List, [], ◌∷◌, ◌++◌, map, Option, Some, None, refl, ap, sym, ◌∙◌, subst, arith, eqb, append_assoc, append-nil}
use Rattle.std.proofs.Math.IntN.{ℤ, pos, negsuc}
use Rattle.std.specs.Prelude.{◌≤ℤ◌, int_le, nat_le, unsigned_abs}
use Rattle.std.specs.List.{list_all}
use Rattle.std.proofs.lemmas.Int.{ints}
use Rattle.std.proofs.lemmas.Bool.{and_parts, and_from, eqb-true, leb-true, le-leb}
use Rattle.type_layout.specs.declared.definitions.TypeId.{TypeId}
use Rattle.type_layout.specs.declared.definitions.Field.{Field}
use Rattle.type_layout.specs.declared.definitions.Host.TheVariants as host
use Rattle.type_layout.specs.declared.definitions.TypeDef.{TypeDef}
use Rattle.type_layout.specs.declared.definitions.TypeDef.TheVariants as type
use Rattle.type_layout.specs.declared.texts.Place.{Place}
use Rattle.type_layout.specs.Storage.{storage_of, count_between}
use Rattle.type_layout.specs.Layouts.{bounds_at}
use Rattle.type_layout.specs.Table.{AllDefined}
use Rattle.typed_tree.specs.type_fits.Fits.{definition}
use Rattle.scopes.specs.Environment.{Environment}
use Rattle.common_values.specs.Sets.{contains, has_byte, set_bytes}
use Rattle.typing_rules.specs.declared.sorts.Sort.{Sort}
use Rattle.typing_rules.specs.Sorts.{sort_of_type}
use Rattle.tp_meaning.specs.Trees.{Tree, Tip, Fork, Ordinal, Elements, holding, chain}
use Rattle.tp_meaning.specs.Shapes.{Reader, before as continued, read_ordinal, read_many, read_chain, read_set, reader_in, readers_of, first_tree}
use Rattle.constant_checker.specs.stored_values.Stored.{ordinal_bytes, string_bytes}
use Rattle.initializer_meaning.specs.stored_value_laws.Laws.{byte_cell}
use Rattle.initializer_meaning.proofs.stored_value_laws.Ordinals.{ordinals}
use Rattle.initializer_meaning.proofs.stored_value_laws.Strings.{bytes_read as chars, strings}
use Rattle.initializer_meaning.proofs.stored_value_laws.Sets.{sets}
use Rattle.constant_checker.specs.constant_expressions.Values.{number_of, bytes_of, elements_of}
use Rattle.constant_checker.specs.declared.typed_constants.written.Written.{Written}
use Rattle.syntax_tree.specs.expression_tree.Places.{first_place}
use Rattle.constant_checker.specs.typed_constants.Trees.{Initial, Initials, Named, value, list, group, no_initials, and_initial, no_named, and_named, count}
use Rattle.constant_checker.specs.typed_constants.Initializers.{has_every_char, set_fitted, fitted_by, fitted, element_of, counted_by, counted, fields_in, behind_first, due_for, placed, ended, grouped_by, grouped, is_plain, judged, items_judged, fields_judged}
use Rattle.initializer_meaning.specs.initializer_trees.FirstTrees.{IsSetCell, IsCell, IsForked, IsTree, AreElements, AreFields}
use Rattle.initializer_meaning.specs.initializer_trees.Laws.{AreTreesOfInitializers}
use Rattle.initializer_meaning.proofs.initializer_trees.Readers.{reader_is, defined_over}
use Rattle.initializer_meaning.proofs.initializer_trees.Storage.{stored}

-- what lies behind some bytes is read as a tree, whatever follows
pub record IsRead (reader : Reader) (front bytes : List ℕ) (Is : Tree → Type 0) : Type 0 where
  pub more : List ℕ
  pub made : bytes ≡ front ++ more
  pub tree : Tree
  pub is : Is tree
  pub read : (rest : List ℕ) → reader (more ++ rest) ≡ (tree, rest)

by_reader : (Is : Tree → Type 0) (r s : Reader) (front bytes : List ℕ) → r ≡ s → IsRead s front bytes Is → IsRead r front bytes Is
by_reader Is r s front bytes e x = record {
  more = x.more;
  made = x.made;
  tree = x.tree;
  is = x.is;
  read = λ rest. ap (λ (f : Reader). f (x.more ++ rest)) e ∙ x.read rest;
}

of_bytes : (Is : Tree → Type 0) (r : Reader) (front b c : List ℕ) → b ≡ c → IsRead r front c Is → IsRead r front b Is
of_bytes Is r front b c e x = record { more = x.more; made = e ∙ x.made; tree = x.tree; is = x.is; read = x.read }

weakened : (P Q : Tree → Type 0) (r : Reader) (front bytes : List ℕ) → ((t : Tree) → P t → Q t) → IsRead r front bytes P → IsRead r front bytes Q
weakened P Q r front bytes f x = record { more = x.more; made = x.made; tree = x.tree; is = f x.tree x.is; read = x.read }

nothing : (Is : Tree → Type 0) (r : Reader) (front bytes : List ℕ) → bytes ≡ front → Is Tip → ((rest : List ℕ) → r rest ≡ (Tip, rest)) → IsRead r front bytes Is
nothing Is r front bytes e is read = record { more = []; made = e ∙ sym (append-nil front); tree = Tip; is = is; read = read }

-- one part, and what lies behind it
joined : (H T : Tree → Type 0) (head tail : Reader) (front middle bytes : List ℕ) → IsRead head front middle H → IsRead tail middle bytes T
    → IsRead (λ all. continued (head all) tail) front bytes (IsForked H T)
joined H T head tail front middle bytes a b = record {
  more = a.more ++ b.more;
  made = b.made ∙ ap (λ (m : List ℕ). m ++ b.more) a.made ∙ append_assoc front a.more b.more;
  tree = Fork a.tree b.tree;
  is = record { head = a.tree; tail = b.tree; is = refl; first = a.is; rest = b.is };
  read = λ rest.
      ap (λ (xs : List ℕ). continued (head xs) tail) (append_assoc a.more b.more rest)
      ∙ ap (λ (x : Tree × List ℕ). continued x tail) (a.read (b.more ++ rest))
      ∙ ap (λ (x : Tree × List ℕ). let y : Tree × List ℕ = (Fork a.tree x.0, x.1) in y) (b.read rest);
}

-- ---- sets

all_by : (p : ℕ → Bool) (x e : ℕ) (set : List ℕ) (v : Bool) → eqb x e ≡ v → list_all p (x ∷ set) ≡ true → (v || contains set e) ≡ true
    → (list_all p set ≡ true → contains set e ≡ true → p e ≡ true) → p e ≡ true
all_by p x e set true q h c ih = let parts = and_parts (p x) (list_all p set) h in subst (λ (n : ℕ). p n ≡ true) (eqb-true x e q) parts.0
all_by p x e set false q h c ih = let parts = and_parts (p x) (list_all p set) h in ih parts.1 c

-- what all elements of a set fulfil
all_at : (p : ℕ → Bool) (set : List ℕ) (e : ℕ) → list_all p set ≡ true → contains set e ≡ true → p e ≡ true
all_at p [] e h c = cc
all_at p (x ∷ set) e h c = all_by p x e set (eqb x e) refl h c (λ a b. all_at p set e a b)

has : (low high e : ℕ) → (nat_le low e && nat_le e high) ≡ true → has_byte low high e ≡ true
has low high e h =
    let p = and_parts (nat_le low e) (nat_le e high) h in
    let l = leb-true low e p.0 in
    let r = leb-true e high p.1 in
    and_from (nat_le (low / 8) (e / 8)) (nat_le (e / 8) (high / 8)) (le-leb (low / 8) (e / 8) (omega (arith, l))) (le-leb (e / 8) (high / 8) (omega (arith, r)))

kept_by : (low high e : ℕ) (set : List ℕ) (v : Bool) → contains set e ≡ v → list_all (λ x. nat_le low x && nat_le x high) set ≡ true → (v && has_byte low high e) ≡ v
kept_by low high e set true c h = has low high e (all_at (λ x. nat_le low x && nat_le x high) set e h c)
kept_by low high e set false c h = refl

rising : (m n : ℤ) → int_le m n ≡ true → m ≤ℤ n
rising m n e = grind (arith, ints)

set_read : (place : Place) (s : Sort) (low high : ℤ) (there : Bool) (front : List ℕ) (w : Written) (bytes : List ℕ) → (there ≡ true → (pos 0 ≤ℤ low) × (low ≤ℤ high))
    → (set_fitted place s (cond there (Some (unsigned_abs low, unsigned_abs high)) None) front w).holds bytes → IsRead (read_set low high) front bytes (IsSetCell (elements_of w.value))
set_read place s low high false front w bytes k h = absurd h
set_read place s (negsuc l) high true front w bytes k h = absurd (let b = (k refl).0 in omega (arith, ints))
set_read place s (pos l) (negsuc m) true front w bytes k h = absurd (let b = (k refl).1 in omega (arith, ints))
set_read place s (pos l) (pos m) true front w bytes k h =
    let below : l ≤ m = let b = (k refl).1 in omega (arith, ints) in
    let r = sets l m (elements_of w.value) below in
    record {
      more = set_bytes l m (elements_of w.value);
      made = h.made;
      tree = holding (Elements r.read);
      is = record { set = r.read; is = refl; same = λ e. r.same e ∙ kept_by l m e (elements_of w.value) (contains (elements_of w.value) e) refl h.asked.1 };
      read = r.is;
    }

bounds_of : (low high : ℤ) → (int_le (pos 0) low && (int_le low high && int_le high (pos 255))) ≡ true → (pos 0 ≤ℤ low) × (low ≤ℤ high)
bounds_of low high h =
    let p = and_parts (int_le (pos 0) low) (int_le low high && int_le high (pos 255)) h in
    let q = and_parts (int_le low high) (int_le high (pos 255)) p.1 in
    (rising (pos 0) low p.0, rising low high q.0)

-- ---- single values

module _ (types : List TypeDef) (all : AllDefined [] types) where
  -- what reads a Char
  char_reader : (element : TypeId) (one : Option TypeDef) → definition types element ≡ one → has_every_char one ≡ true → reader_in (readers_of types) element ≡ read_ordinal host.Char
  char_reader element (Some (type.Ordinal host.Char low high)) e h = reader_is types element (type.Ordinal host.Char low high) all e
  char_reader element (Some (type.Ordinal host.ShortInt low high)) e h = absurd (cc h)
  char_reader element (Some (type.Ordinal host.Byte low high)) e h = absurd (cc h)
  char_reader element (Some (type.Ordinal host.Integer low high)) e h = absurd (cc h)
  char_reader element (Some (type.Ordinal host.Word low high)) e h = absurd (cc h)
  char_reader element (Some (type.Ordinal host.LongInt low high)) e h = absurd (cc h)
  char_reader element (Some (type.Ordinal host.Boolean low high)) e h = absurd (cc h)
  char_reader element (Some (type.Ordinal host.Enumeration low high)) e h = absurd (cc h)
  char_reader element (Some (type.Str max)) e h = absurd (cc h)
  char_reader element (Some (type.SetOf base)) e h = absurd (cc h)
  char_reader element (Some (type.ArrayOf index inner)) e h = absurd (cc h)
  char_reader element (Some (type.RecordOf fields)) e h = absurd (cc h)
  char_reader element (Some (type.PointerTo target)) e h = absurd (cc h)
  char_reader element (Some (type.ObjectOf parent dynamic fields methods)) e h = absurd (cc h)
  char_reader element (Some (type.Procedural header)) e h = absurd (cc h)
  char_reader element None e h = absurd (cc h)

  value_read : (place : Place) (ty : TypeId) (one : Option TypeDef) → definition types ty ≡ one → (front : List ℕ) (w : Written) (bytes : List ℕ)
      → (fitted_by types place ty one front w).holds bytes → IsRead (reader_in (readers_of types) ty) front bytes (IsCell one w.value)
  value_read place ty (Some (type.Ordinal host low high)) e front w bytes h =
      let d = (defined_over types ty (type.Ordinal host low high) all e).defined in
      let n = number_of w.value in
      let held = stored host low high n d.0 d.2 h.asked.1.0 h.asked.1.1 in
      record {
        more = ordinal_bytes (storage_of host low high) n;
        made = h.made;
        tree = holding (Ordinal n);
        is = refl;
        read = λ rest.
            ap (λ (f : Reader). f (ordinal_bytes (storage_of host low high) n ++ rest)) (reader_is types ty (type.Ordinal host low high) all e)
            ∙ ordinals (storage_of host low high) n rest held;
      }
  value_read place ty (Some (type.Str max)) e front w bytes h =
      let text = bytes_of w.value in
      record {
        more = string_bytes max text;
        made = h.made;
        tree = chain (map byte_cell (string_bytes max text));
        is = refl;
        read = λ rest. ap (λ (f : Reader). f (string_bytes max text ++ rest)) (reader_is types ty (type.Str max) all e) ∙ strings max text rest h.asked.1;
      }
  value_read place ty (Some (type.SetOf base)) e front w bytes h =
      let low = (bounds_at types base).0 in
      let high = (bounds_at types base).1 in
      by_reader (IsSetCell (elements_of w.value)) (reader_in (readers_of types) ty) (read_set low high) front bytes (reader_is types ty (type.SetOf base) all e)
      (set_read place (sort_of_type types ty) low high (int_le (pos 0) low && (int_le low high && int_le high (pos 255))) front w bytes (bounds_of low high) h)
  value_read place ty None e front w bytes h = absurd h
  value_read place ty (Some (type.ArrayOf index element)) e front w bytes h =
      let text = bytes_of w.value in
      let count = count_between (bounds_at types index).0 (bounds_at types index).1 in
      record {
        more = text;
        made = h.made;
        tree = chain (map byte_cell text);
        is = refl;
        read = λ rest.
            ap (λ (f : Reader). f (text ++ rest)) (reader_is types ty (type.ArrayOf index element) all e)
            ∙ ap (λ (f : Reader). read_many count f (text ++ rest)) (char_reader element (definition types element) refl h.asked.1.0)
            ∙ chars count text rest h.asked.1.1;
      }
  value_read place ty (Some (type.RecordOf fields)) e front w bytes h = absurd h
  value_read place ty (Some (type.PointerTo target)) e front w bytes h = absurd h
  value_read place ty (Some (type.ObjectOf parent dynamic fields methods)) e front w bytes h = absurd h
  value_read place ty (Some (type.Procedural header)) e front w bytes h = absurd h

  fitted_read : (place : Place) (ty : TypeId) (front : List ℕ) (w : Written) (bytes : List ℕ) → (fitted types place (Some ty) front w).holds bytes
      → IsRead (reader_in (readers_of types) ty) front bytes (IsCell (definition types ty) w.value)
  unfolding fitted
  fitted_read place ty front w bytes h = value_read place ty (definition types ty) refl front w bytes h

-- what reads fields
abbrev chain_reader : List TypeDef → List Field → Reader
chain_reader types due = read_chain (map (λ (field : Field). reader_in (readers_of types) field.ty) due)

-- ---- lists and groups, over what their parts are read as

module _ (g : Environment) (all : AllDefined [] g.types.types) where
  list_by : (place : Place) (ty : TypeId) (one : Option TypeDef) → definition g.types.types ty ≡ one → (front : List ℕ) (items : Initials) (part bytes : List ℕ)
      → (items_judged g (element_of one) front items).holds part → (counted_by g.types.types place one (count items) part).holds bytes
      → ((element : TypeId) → (items_judged g (Some element) front items).holds part
      → IsRead (read_many (count items) (reader_in (readers_of g.types.types) element)) front part (AreElements g (Some element) items))
      → IsRead (reader_in (readers_of g.types.types) ty) front bytes (AreElements g (element_of one) items)
  list_by place ty (Some (type.ArrayOf index element)) e front items part bytes h c inner =
      let read = reader_in (readers_of g.types.types) element in
      let n = count_between (bounds_at g.types.types index).0 (bounds_at g.types.types index).1 in
      let same : reader_in (readers_of g.types.types) ty ≡ read_many (count items) read =
      reader_is g.types.types ty (type.ArrayOf index element) all e ∙ ap (λ (k : ℕ). read_many k read) (sym c.asked) in
      of_bytes (AreElements g (Some element) items) (reader_in (readers_of g.types.types) ty) front bytes part c.made
      (by_reader (AreElements g (Some element) items) (reader_in (readers_of g.types.types) ty) (read_many (count items) read) front part same (inner element h))
  list_by place ty None e front items part bytes h c inner = absurd c
  list_by place ty (Some (type.Ordinal host low high)) e front items part bytes h c inner = absurd c
  list_by place ty (Some (type.Str max)) e front items part bytes h c inner = absurd c
  list_by place ty (Some (type.SetOf base)) e front items part bytes h c inner = absurd c
  list_by place ty (Some (type.RecordOf fields)) e front items part bytes h c inner = absurd c
  list_by place ty (Some (type.PointerTo target)) e front items part bytes h c inner = absurd c
  list_by place ty (Some (type.ObjectOf parent dynamic fields methods)) e front items part bytes h c inner = absurd c
  list_by place ty (Some (type.Procedural header)) e front items part bytes h c inner = absurd c

  list_read : (place : Place) (ty : TypeId) (front : List ℕ) (items : Initials) (part bytes : List ℕ)
      → (items_judged g (element_of (definition g.types.types ty)) front items).holds part → (counted g.types.types place (Some ty) (count items) part).holds bytes
      → ((element : TypeId) → (items_judged g (Some element) front items).holds part
      → IsRead (read_many (count items) (reader_in (readers_of g.types.types) element)) front part (AreElements g (Some element) items))
      → IsRead (reader_in (readers_of g.types.types) ty) front bytes (AreElements g (element_of (definition g.types.types ty)) items)
  unfolding counted
  list_read place ty front items part bytes h c inner = list_by place ty (definition g.types.types ty) refl front items part bytes h c inner

  group_by : (place : Place) (ty : TypeId) (one : Option TypeDef) → definition g.types.types ty ≡ one → (front : List ℕ) (fields : Named) (part bytes : List ℕ)
      → (fields_judged g place (fields_in one) front fields).holds part → (grouped_by place (fields_in one) part).holds bytes
      → ((due : List Field) → (fields_judged g place (Some due) front fields).holds part → IsRead (chain_reader g.types.types due) front part (AreFields g (Some due) fields))
      → IsRead (reader_in (readers_of g.types.types) ty) front bytes (AreFields g (fields_in one) fields)
  group_by place ty (Some (type.RecordOf due)) e front fields part bytes h c inner =
      of_bytes (AreFields g (Some due) fields) (reader_in (readers_of g.types.types) ty) front bytes part c
      (by_reader (AreFields g (Some due) fields) (reader_in (readers_of g.types.types) ty) (chain_reader g.types.types due) front part (reader_is g.types.types ty (type.RecordOf due) all e) (inner due h))
  group_by place ty None e front fields part bytes h c inner = absurd c
  group_by place ty (Some (type.Ordinal host low high)) e front fields part bytes h c inner = absurd c
  group_by place ty (Some (type.Str max)) e front fields part bytes h c inner = absurd c
  group_by place ty (Some (type.SetOf base)) e front fields part bytes h c inner = absurd c
  group_by place ty (Some (type.ArrayOf index element)) e front fields part bytes h c inner = absurd c
  group_by place ty (Some (type.PointerTo target)) e front fields part bytes h c inner = absurd c
  group_by place ty (Some (type.ObjectOf parent dynamic more methods)) e front fields part bytes h c inner = absurd c
  group_by place ty (Some (type.Procedural header)) e front fields part bytes h c inner = absurd c

  group_read : (place : Place) (ty : TypeId) (front : List ℕ) (fields : Named) (part bytes : List ℕ)
      → (fields_judged g place (fields_in (definition g.types.types ty)) front fields).holds part → (grouped g.types.types place (Some ty) part).holds bytes
      → ((due : List Field) → (fields_judged g place (Some due) front fields).holds part → IsRead (chain_reader g.types.types due) front part (AreFields g (Some due) fields))
      → IsRead (reader_in (readers_of g.types.types) ty) front bytes (AreFields g (fields_in (definition g.types.types ty)) fields)
  unfolding grouped
  group_read place ty front fields part bytes h c inner = group_by place ty (definition g.types.types ty) refl front fields part bytes h c inner

  ended_read : (place : Place) (due : List Field) (front bytes : List ℕ) → (ended place (Some due) front).holds bytes → IsRead (chain_reader g.types.types due) front bytes (AreFields g (Some due) no_named)
  ended_read place [] front bytes h = nothing (AreFields g (Some []) no_named) (chain_reader g.types.types []) front bytes h refl (λ rest. refl)
  ended_read place (field ∷ due) front bytes h = absurd h

  -- a field that is the next one, over what it and those behind it are read as
  next_read : (place : Place) (due : List Field) (name front inner part bytes : List ℕ) (x : Initial) (rest : Named)
      → (judged g (due_for (Some due) name) front x).holds inner → (placed place (Some due) name inner).holds part
      → ((ty : TypeId) → (judged g (Some ty) front x).holds inner → IsRead (reader_in (readers_of g.types.types) ty) front inner (IsTree g (Some ty) x))
      → IsRead (chain_reader g.types.types (behind_first due)) part bytes (AreFields g (Some (behind_first due)) rest)
      → IsRead (chain_reader g.types.types due) front bytes (IsForked (IsTree g (due_for (Some due) name) x) (AreFields g (Some (behind_first due)) rest))
  next_read place [] name front inner part bytes x rest h p one more = absurd (let e : false ≡ true = p.asked in cc)
  next_read place (field ∷ due) name front inner part bytes x rest h p one more =
      let q : due_for (Some (field ∷ due)) name ≡ Some field.ty = ap (λ (b : Bool). cond b (Some field.ty) None) p.asked in
      let held : (judged g (Some field.ty) front x).holds inner = subst (λ (d : Option TypeId). (judged g d front x).holds inner) q h in
      let reader = reader_in (readers_of g.types.types) field.ty in
      let first = of_bytes (IsTree g (Some field.ty) x) reader front part inner p.made (one field.ty held) in
      let due_first = subst (λ (d : Option TypeId). IsRead reader front part (IsTree g d x)) (sym q) first in
      joined (IsTree g (due_for (Some (field ∷ due)) name) x) (AreFields g (Some due) rest) reader (chain_reader g.types.types due) front part bytes due_first more

-- ---- first values

mutual
  tree_read : (g : Environment) (all : AllDefined [] g.types.types) (ty : TypeId) (front : List ℕ) (initial : Initial) (bytes : List ℕ)
      → (judged g (Some ty) front initial).holds bytes → IsRead (reader_in (readers_of g.types.types) ty) front bytes (IsTree g (Some ty) initial)
  tree_read g all ty front (value one) bytes h =
      weakened (IsCell (definition g.types.types ty) h.part.value) (IsTree g (Some ty) (value one)) (reader_in (readers_of g.types.types) ty) front bytes
      (λ t c. record { written = h.part; holds = h.holds; cells = c })
      (fitted_read g.types.types all (first_place one) ty front h.part bytes h.made)
  tree_read g all ty front (list place items) bytes h =
      list_read g all place ty front items h.part bytes h.holds h.made (λ element k. items_read g all element front items h.part k)
  tree_read g all ty front (group place fields) bytes h =
      group_read g all place ty front fields h.part bytes h.holds h.made (λ due k. fields_read g all place due front fields h.part k)

  items_read : (g : Environment) (all : AllDefined [] g.types.types) (element : TypeId) (front : List ℕ) (items : Initials) (bytes : List ℕ)
      → (items_judged g (Some element) front items).holds bytes
      → IsRead (read_many (count items) (reader_in (readers_of g.types.types) element)) front bytes (AreElements g (Some element) items)
  items_read g all element front no_initials bytes h =
      nothing (AreElements g (Some element) no_initials) (read_many 0 (reader_in (readers_of g.types.types) element)) front bytes h refl (λ rest. refl)
  items_read g all element front (and_initial one rest) bytes h =
      let read = reader_in (readers_of g.types.types) element in
      let more : count rest + 1 ≡ suc (count rest) = omega arith in
      let same : read_many (count rest + 1) read ≡ read_many (suc (count rest)) read = ap (λ (n : ℕ). read_many n read) more in
      by_reader (AreElements g (Some element) (and_initial one rest)) (read_many (count rest + 1) read) (read_many (suc (count rest)) read) front bytes same
      (joined (IsTree g (Some element) one) (AreElements g (Some element) rest) read (read_many (count rest) read) front h.part bytes
      (tree_read g all element front one h.part h.holds) (items_read g all element h.part rest bytes h.made))

  fields_read : (g : Environment) (all : AllDefined [] g.types.types) (place : Place) (due : List Field) (front : List ℕ) (fields : Named) (bytes : List ℕ)
      → (fields_judged g place (Some due) front fields).holds bytes → IsRead (chain_reader g.types.types due) front bytes (AreFields g (Some due) fields)
  fields_read g all place due front no_named bytes h = ended_read g all place due front bytes h
  fields_read g all place due front (and_named one x rest) bytes h =
      next_read g all one.position.place due one.name front h.holds.part h.part bytes x rest h.holds.holds h.holds.made
      (λ ty k. tree_read g all ty front x h.holds.part k)
      (fields_read g all place (behind_first due) h.part rest bytes h.made)

first_by : (g : Environment) (all : AllDefined [] g.types.types) (ty : TypeId) (initial : Initial) (bytes : List ℕ) (plain : Bool)
    → cond plain ((judged g (Some ty) [] initial).holds bytes) ⊥ → IsTree g (Some ty) initial (first_tree g.types.types ty (Some bytes))
first_by g all ty initial bytes false h = absurd h
first_by g all ty initial bytes true h =
    let r = tree_read g all ty [] initial bytes h in
    let read = reader_in (readers_of g.types.types) ty in
    let e : (read bytes).0 ≡ r.tree =
    ap (λ (b : List ℕ). (read b).0) (r.made ∙ sym (append-nil r.more)) ∙ ap (λ (x : Tree × List ℕ). x.0) (r.read []) in
    subst (λ (t : Tree). IsTree g (Some ty) initial t) (sym e) r.is

pub first_trees : AreTreesOfInitializers
first_trees g place ty initial bytes all h = first_by g all ty initial bytes (is_plain g.types.types ty) h

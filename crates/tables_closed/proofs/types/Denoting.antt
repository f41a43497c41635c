-- Types that are written: how many they add, and that what they name is below each bound.
use Rattle.std.proofs.Common.{◌≡◌, ℕ, ◌+◌, ◌<◌, ◌≤◌, ℤ, pos, ◌-ℤ◌, Bool, true, false, List, [], ◌∷◌, length, Option, Some, None, refl, sym, ap, subst, arith}
use Rattle.tp_check_decl.specs.type_layout.declared.definitions.TypeId.{TypeId}
use Rattle.tp_check_decl.specs.type_layout.declared.definitions.Field.{Field}
use Rattle.tp_check_decl.specs.type_layout.declared.definitions.Host.{Host}
use Rattle.tp_check_decl.specs.type_layout.declared.definitions.Host.TheVariants as host
use Rattle.tp_check_decl.specs.type_layout.declared.definitions.Kind.TheVariants as kind
use Rattle.tp_check_decl.specs.type_layout.declared.definitions.TypeDef.TheVariants.{Ordinal, SetOf, ArrayOf, RecordOf, PointerTo, Procedural}
use Rattle.tp_check_decl.specs.type_layout.declared.texts.Place.{Place}
use Rattle.tp_check_decl.specs.type_layout.Words.{same_bytes}
use Rattle.tp_check_decl.specs.typed_tree.declared.expressions.Value.{Value}
use Rattle.tp_check_decl.specs.typed_tree.declared.expressions.Value.TheVariants as value
use Rattle.tp_check_decl.specs.syntax_tree.declared.identifier.Identifier.{Identifier}
use Rattle.tp_check_decl.specs.scopes.declared.entries.Entry.TheVariants as entry
use Rattle.tp_check_decl.specs.scopes.Environment.{Environment}
use Rattle.tp_check_decl.specs.typing_rules.declared.sorts.Sort.{Sort}
use Rattle.tp_check_decl.specs.typing_rules.Judgements.{Judgement}
use Rattle.tp_check_decl.specs.typing_rules.Sorts as sorts
use Rattle.tp_check_decl.specs.typing_rules.Sorts.{sort_of_type}
use Rattle.tp_check_decl.specs.unit_interface.Exports.{in_header}
use Rattle.tp_check_decl.specs.constant_checker.declared.constant_expressions.constants.Constant.{Constant}
use Rattle.tp_check_decl.specs.constant_checker.constant_expressions.Values.{number_of}
use Rattle.tp_check_decl.specs.declaration_checker.headers.Names.{type_named}
use Rattle.tp_check_decl.specs.declaration_checker.type_denoters.Trees.{Denoter, Denoters, Fields, named, range, enumeration, pointer, string, sized, procedure, function, object, array, record_of, set, no_denoters, and_denoter, no_fields, and_fields}
use Rattle.tp_check_decl.specs.syntax_tree.expression_tree.Places.{first_place}
use Rattle.tp_check_decl.specs.declaration_checker.type_denoters.Additions.{Denoted, denoted}
use Rattle.tp_check_decl.specs.declaration_checker.type_denoters.Denoters.{set_base_of, with_set, range_by, range_of, values_entered, enumeration_of, Ground, promise_of, promised, string_of, array_of, arrays_of, Listed, Indexes, judged, indexes_judged, fields_judged}
use Rattle.tp_check_decl.specs.declaration_checker.type_parts.Promised.{adds, adds_indexes, adds_fields}
use Rattle.tables_closed.specs.constants.Bounds.{AreBelow, in_entry, IsBoundOf}
use Rattle.tables_closed.proofs.constants.Headers.{type_bounded, procedure_bounded, function_bounded}
use Rattle.tables_closed.proofs.types.Means.{IsApart}
use Rattle.tables_closed.proofs.types.Entering.{IsAsked}
use Rattle.tables_closed.proofs.types.Promising.{ArePromised}
use Rattle.tables_closed.proofs.types.Reading.{Reads, Types, read_same, read_at, read_then, typed_at, typed_as, typed_for, type_then, adds_type, enters}

abbrev Nothing : ℕ → Type 0
Nothing n = Unit {0}

-- ---- ordinal types, with the sets behind them

ordinal_asked : (n number : ℕ) (own : Host) (low high : ℤ) → number + 1 < n → IsAsked n number (Ordinal own low high)
ordinal_asked n number host.Enumeration low high h = h
ordinal_asked n number own low high h = tt

constant_apart : (ty : TypeId) (v : Value) (b : Bool) → IsApart (entry.Const ty v) b
constant_apart ty v true = λ number other m. m
constant_apart ty v false = tt

module _ (unit : List ℕ) where
  set_reads : (g : Environment) (place : Place) (base : TypeId) (h : Environment) → (with_set unit g place base).holds h → Reads Nothing g h 1
  set_reads g place base h e = read_at Nothing g e.part.scope h 1 e.made (adds_type unit g place _ (SetOf base) e.part e.holds).reads

  -- an ordinal type, and the scope behind its set
  ordinal_reads : (g : Environment) (place at : Place) (own : Host) (low high : ℤ) (base : TypeId) (one : Denoted) (h : Environment)
      → Types (λ n. IsAsked n (length g.types.types) (Ordinal own low high)) g one 1 → (with_set unit one.scope at base).holds h → Reads Nothing g h 2
  ordinal_reads g place at own low high base one h first e =
      let set = set_reads one.scope at base h e in
      let long = first.reads.long in
      let more = set.long in
      read_then (λ n. IsAsked n (length g.types.types) (Ordinal own low high)) Nothing Nothing g one.scope 1 1 first.reads h set
      (λ b s l a. ordinal_asked b (length g.types.types) own low high (omega arith)) (λ b s m l a. tt)

  ordinal_below : (g : Environment) (place at : Place) (own : Host) (low high : ℤ) (base : TypeId) (one : Denoted) (h : Environment)
      → Types (λ n. IsAsked n (length g.types.types) (Ordinal own low high)) g one 1 → (with_set unit one.scope at base).holds h
      → (n : ℕ) → IsBoundOf n g → length h.types.types ≤ n → one.ty.0 < n
  ordinal_below g place at own low high base one h first e n b l =
      let long = first.reads.long in
      let more = (set_reads one.scope at base h e).long in
      first.ty n b (omega arith) (ordinal_asked n (length g.types.types) own low high (omega arith))

  range_by_types : (g : Environment) (place : Place) (s t : Sort) (low high : ℤ) (made : Denoted) → (range_by unit g place s t low high).holds made → Types Nothing g made 2
  range_by_types g place s t low high made e =
      let one = e.made.part in
      let f = e.made.made in
      let first = adds_type unit g place _ _ one e.made.holds in
      typed_at Nothing g (denoted one.ty f.part) made 2 f.made (record {
        reads = ordinal_reads g place place _ low high (set_base_of s) one f.part first f.holds;
        ty = λ n b l a. ordinal_below g place place _ low high (set_base_of s) one f.part first f.holds n b l;
      })

  range_types : (g : Environment) (place : Place) (low high : Constant) (made : Denoted) → (range_of unit g place low high).holds made → Types Nothing g made 2
  unfolding range_of
  range_types g place low high made e = range_by_types g place (sort_of_type g.types.types low.ty) (sort_of_type g.types.types high.ty) (number_of low.value) (number_of high.value) made e

  values_read : (g : Environment) (ty : TypeId) (number : ℕ) (names : List Identifier) (h : Environment) → (values_entered g ty number names).holds h → Reads (λ n. ty.0 < n) g h 0
  values_read g ty number [] h e = read_same (λ n. ty.0 < n) g h e
  values_read g ty number (one ∷ rest) h e =
      let v = value.Number (pos number) in
      let first = enters g one.position.place one.name (entry.Const ty v) e.part e.holds (λ wanted. constant_apart ty v (same_bytes wanted one.name)) in
      read_then (λ n. AreBelow n (in_entry (entry.Const ty v))) (λ n. ty.0 < n) (λ n. ty.0 < n) g e.part 0 0 first h (values_read e.part ty (number + 1) rest h e.made)
      (λ b s l a. (a, tt)) (λ b s m l a. a)

  enumeration_types : (g : Environment) (place : Place) (names : List Identifier) (made : Denoted) → (enumeration_of unit g place names).holds made → Types Nothing g made 2
  unfolding enumeration_of
  enumeration_types g place names made e =
      let a = e.made in
      let one = a.part in
      let b = a.made in
      let c = b.made in
      let high = pos (length names) -ℤ pos 1 in
      let first = adds_type unit g place _ (Ordinal host.Enumeration (pos 0) high) one a.holds in
      let ordinal = ordinal_reads g place place host.Enumeration (pos 0) high one.ty one b.part first b.holds in
      let values = values_read b.part one.ty 0 names c.part c.holds in
      let long = values.long in
      let low : (n : ℕ) → IsBoundOf n g → length c.part.types.types ≤ n → one.ty.0 < n =
      λ n s l. ordinal_below g place place host.Enumeration (pos 0) high one.ty one b.part first b.holds n s (omega arith) in
      typed_at Nothing g (denoted one.ty c.part) made 2 c.made (record {
        reads = read_then Nothing (λ n. one.ty.0 < n) Nothing g b.part 2 0 ordinal c.part values (λ n s l t. tt) (λ n s m l t. low n s l);
        ty = λ n s l t. low n s l;
      })

  -- ---- strings and arrays

  string_types : (g : Environment) (place : Place) (size : Constant) (made : Denoted) → (string_of unit g place size).holds made → Types Nothing g made 1
  unfolding string_of
  string_types g place size made e = adds_type unit g place _ _ made e.made

  array_types : (g : Environment) (place : Place) (index element : TypeId) (made : Denoted) → (array_of unit g place index element).holds made → Types Nothing g made 1
  unfolding array_of
  array_types g place index element made e = adds_type unit g place _ (ArrayOf index element) made e.made

  arrays_types : (place : Place) (types : List TypeId) (element made : Denoted) → (arrays_of unit place types element).holds made → Types (λ n. element.ty.0 < n) element.scope made (length types)
  arrays_types place [] element made e =
      typed_at (λ n. element.ty.0 < n) element.scope element made 0 e (record { reads = read_same (λ n. element.ty.0 < n) element.scope element.scope refl; ty = λ n b l a. a })
  arrays_types place (index ∷ rest) element made e =
      let one = array_types element.scope place index element.ty e.part e.holds in
      let longer = (arrays_types place rest e.part made e.made).reads.long in
      typed_as (λ n. element.ty.0 < n) element.scope made (1 + length rest) (length (index ∷ rest)) (omega arith)
      (type_then Nothing (λ n. e.part.ty.0 < n) (λ n. element.ty.0 < n) element.scope e.part.scope 1 (length rest) one.reads made (arrays_types place rest e.part made e.made)
      (λ n b l a. tt) (λ n b m l a. one.ty n b (omega arith) tt))

-- ---- pointers

target_below : (n : ℕ) (o : Option TypeId) (k : Judgement TypeId) (ty : TypeId) → ((other : TypeId) → o ≡ Some other → other.0 < n) → ((other : TypeId) → k.holds other → other.0 < n)
    → (promised o k).holds ty → ty.0 < n
target_below n None k ty p q e = q ty e
target_below n (Some own) k ty p q e = subst (λ (x : TypeId). x.0 < n) (sym e) (p own refl)

-- ---- all types

-- index types, each with the array that it is of
record Indexed (asked : ℕ → Type 0) (g : Environment) (before : List TypeId) (all : Denoters) (made : Indexes) : Type 0 where
  count : ℕ
  reads : Reads asked g made.scope count
  counted : count + length made.types ≡ adds_indexes all + length before

indexed_at : (asked : ℕ → Type 0) (g : Environment) (before : List TypeId) (all : Denoters) (one made : Indexes) → made ≡ one → Indexed asked g before all one → Indexed asked g before all made
indexed_at asked g before all one made e r = let P : Indexes → Type 0 = λ x. Indexed asked g before all x in subst P (sym e) r

module _ (on : Ground) where
  abbrev Asked : ℕ → Type 0
  Asked n = ArePromised on.names n

  plainly : (g : Environment) (made : Denoted) (count : ℕ) → Types Nothing g made count → Types Asked g made count
  plainly g made count h = typed_for Nothing Asked g made count h (λ n b l a. tt)

  mutual
    pub denoting : (g : Environment) (one : Denoter) (made : Denoted) → (judged on g one).holds made → Types Asked g made (adds one)
    denoting g (named one) made e =
        typed_at Asked g (denoted e.part g) made 0 e.made (record {
          reads = read_same Asked g g refl;
          ty = λ n b l a. type_bounded n g b one.position.place one.name e.part e.holds;
        })
    denoting g (range low high) made e = plainly g made 2 (range_types on.unit g (first_place low) e.left e.right made e.made)
    denoting g (enumeration place all) made e = plainly g made 2 (enumeration_types on.unit g place all made e)
    denoting g (pointer one) made e =
        typed_for (λ n. IsAsked n (length g.types.types) (PointerTo e.part)) Asked g made 1 (adds_type on.unit g one.position.place _ (PointerTo e.part) made e.made)
        (λ n b l a. target_below n (promise_of on.names one.name) (type_named g one.position.place one.name) e.part (λ other f. a one.name other f)
        (λ other held. type_bounded n g b one.position.place one.name other held) e.holds)
    denoting g string made e =
        typed_at Asked g (denoted sorts.string g) made 0 e (record { reads = read_same Asked g g refl; ty = λ n b l a. (let most = b.system in omega arith) })
    denoting g (sized place size) made e = plainly g made 1 (string_types on.unit g place e.part made e.made)
    denoting g (procedure place groups) made e =
        typed_for (λ n. AreBelow n (in_header e.part)) Asked g made 1 (adds_type on.unit g place _ (Procedural e.part) made e.made)
        (λ n b l a. procedure_bounded n g b false place kind.Procedure groups e.part e.holds)
    denoting g (function place groups result) made e =
        typed_for (λ n. AreBelow n (in_header e.part)) Asked g made 1 (adds_type on.unit g place _ (Procedural e.part) made e.made)
        (λ n b l a. function_bounded n g b false place groups (Some result) e.part e.holds)
    denoting g (object place ancestor all methods) made e = absurd e
    denoting g (array place all element) made e =
        let i = indexes_read g [] all e.part e.holds in
        let one = e.made.part in
        let inner = denoting e.part.scope element one e.made.holds in
        let outer = arrays_types on.unit place e.part.types one made e.made.made in
        let long = outer.reads.long in
        let rest : Types Asked e.part.scope made (adds element + length e.part.types) =
        type_then Asked (λ n. one.ty.0 < n) Asked e.part.scope one.scope (adds element) (length e.part.types) inner.reads made outer (λ n b l a. a)
        (λ n b m l a. inner.ty n b (omega arith) a) in
        let counted = i.counted in
        typed_as Asked g made (i.count + (adds element + length e.part.types)) (adds_indexes all + adds element) (omega arith)
        (type_then Asked Asked Asked g e.part.scope i.count (adds element + length e.part.types) i.reads made rest (λ n b l a. a) (λ n b m l a. a))
    denoting g (record_of place all) made e =
        type_then Asked Nothing Asked g e.part.scope (adds_fields all) 1 (fields_read g [] all e.part e.holds) made
        (adds_type on.unit e.part.scope place _ (RecordOf e.part.fields) made e.made) (λ n b l a. a) (λ n b m l a. tt)
    denoting g (set place element) made e =
        type_then Asked Nothing Asked g e.part.scope (adds element) 1 (denoting g element e.part e.holds).reads made
        (adds_type on.unit e.part.scope place _ (SetOf e.part.ty) made e.made) (λ n b l a. a) (λ n b m l a. tt)

    indexes_read : (g : Environment) (before : List TypeId) (all : Denoters) (made : Indexes) → (indexes_judged on g before all).holds made → Indexed Asked g before all made
    indexes_read g before no_denoters made e =
        indexed_at Asked g before no_denoters _ made e (record { count = 0; reads = read_same Asked g g refl; counted = refl })
    indexes_read g before (and_denoter one rest) made e =
        let first = denoting g one e.part e.holds in
        let more = indexes_read e.part.scope (e.part.ty ∷ before) rest made e.made in
        let counted = more.counted in
        record {
          count = adds one + more.count;
          reads = read_then Asked Asked Asked g e.part.scope (adds one) more.count first.reads made.scope more.reads (λ n b l a. a) (λ n b m l a. a);
          counted = omega arith;
        }

    pub fields_read : (g : Environment) (before : List Field) (all : Fields) (made : Listed) → (fields_judged on g before all).holds made → Reads Asked g made.scope (adds_fields all)
    fields_read g before no_fields made e = read_same Asked g made.scope (ap (λ (l : Listed). l.scope) e)
    fields_read g before (and_fields all one rest) made e =
        let first = denoting g one e.part e.holds in
        let names = e.made in
        read_then Asked Asked Asked g e.part.scope (adds one) (adds_fields rest) first.reads made.scope (fields_read e.part.scope names.part rest made names.made) (λ n b l a. a) (λ n b m l a. a)

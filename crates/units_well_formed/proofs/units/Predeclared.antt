-- The scope of a source that uses no unit: what is predeclared is there.
use Rattle.std.proofs.Common.{◌≡◌, ℕ, zero, suc, ◌+◌, ◌<◌, ◌≤◌, pos, Bool, true, false, not, ◌&&◌, cond, List, [], ◌∷◌, ◌++◌, length, map, get_or, Option, Some, None, refl, sym, subst, ap, ◌∙◌, arith, rules}
use Rattle.std.specs.Prelude.{slice_get, codes}
use Rattle.std.specs.List.{IsDistinct}
use Rattle.std.proofs.lemmas.List.Elements.{All-nil}
use Rattle.declarations_well_formed.specs.type_layout.declared.definitions.TypeId.{TypeId}
use Rattle.declarations_well_formed.specs.type_layout.declared.definitions.Host.TheVariants as host
use Rattle.declarations_well_formed.specs.type_layout.declared.definitions.Method.{Method}
use Rattle.declarations_well_formed.specs.type_layout.declared.definitions.TypeDef.{TypeDef}
use Rattle.declarations_well_formed.specs.type_layout.declared.definitions.TypeDef.TheVariants as type
use Rattle.declarations_well_formed.specs.type_layout.declared.layout.Layout.{Layout}
use Rattle.declarations_well_formed.specs.type_layout.Layouts.{layouts_of}
use Rattle.declarations_well_formed.specs.type_layout.Table.{AllDefined}
use Rattle.declarations_well_formed.proofs.type_layout_proofs.Given.{length-layouts_of}
use Rattle.declarations_well_formed.specs.type_layout.Words.{is_name, same_bytes}
use Rattle.declarations_well_formed.specs.typed_tree.type_fits.Fits.{definition, parent_of}
use Rattle.declarations_well_formed.specs.well_formed.Scopes.{Scope}
use Rattle.declarations_well_formed.specs.scopes.declared.entries.Entry.{Entry}
use Rattle.declarations_well_formed.specs.scopes.declared.entries.Entry.TheVariants as entry
use Rattle.declarations_well_formed.specs.scopes.Symbols.{SymbolList, has}
use Rattle.declarations_well_formed.specs.scopes.Members as members
use Rattle.declarations_well_formed.specs.scopes.Members.{own_fields, fields_within}
use Rattle.declarations_well_formed.specs.scopes.Predeclared.{type_id, type_list, with_known, with_types, with_standard, number_entry, with_constants, type_names, standard, predeclared, first}
use Rattle.declarations_well_formed.specs.object_vmt.Slots.{slots_of}
use Rattle.declarations_well_formed.specs.call_rules.method_rules.Slots.{methods_of, methods_within, methods_in}
use Rattle.declarations_well_formed.specs.rules_well_formed.virtual_slots.Laws.{IsNumbered}
use Rattle.declarations_well_formed.specs.rules_well_formed.nodes.Tables.{IsInTable, NamesWithin, IsSound}
use Rattle.units_well_formed.proofs.parts.Below.{unit_told_from}
use Rattle.declarations_well_formed.specs.tp_check_decl.Programs.{empty_draft}
use Rattle.units_well_formed.specs.parts.Below.{IsEntry, EachOf, IsConstantIn, scope_of}
use Rattle.declarations_well_formed.proofs.imported_types_agree_proofs.well_scoped.Beginning.{first_complete}
use Rattle.units_well_formed.specs.units.Begun.{IsBegun}

-- ---- names

module _ (P : Entry → Type 0) where
  pushed : (symbols : SymbolList) (name : List ℕ) (one : Entry) → EachOf P symbols → P one → EachOf P (symbols ++ (name, one) ∷ [])
  pushed [] name one h k = (k, tt)
  pushed (first_one ∷ symbols) name one h k = (h.0, pushed symbols name one h.1 k)

  known_by : (b : Bool) (symbols : SymbolList) (name : List ℕ) (one : Entry) → EachOf P symbols → P one → EachOf P (cond b (symbols ++ (name, one) ∷ []) symbols)
  known_by true symbols name one h k = pushed symbols name one h k
  known_by false symbols name one h k = h

  known_has : (symbols : SymbolList) (name : List ℕ) (one : Entry) → EachOf P symbols → P one → EachOf P (with_known symbols name one)
  unfolding with_known
  known_has symbols name one h k = known_by (is_name name && not (has symbols name)) symbols name one h k

  types_have : (symbols : SymbolList) (number : ℕ) (names : List (List ℕ)) → ((k : ℕ) → k < number + length names → P (entry.Ty (type_id k))) → EachOf P symbols → EachOf P (with_types symbols number names)
  unfolding with_types
  types_have symbols number [] each h = h
  types_have symbols number (name ∷ names) each h =
      types_have (with_known symbols name (entry.Ty (type_id number))) (number + 1) names (λ k low. each k (omega (arith, low))) (known_has symbols name (entry.Ty (type_id number)) h (each number (omega arith)))

  standard_have : (symbols : SymbolList) (rows : List (List ℕ × ℕ)) → ((k : ℕ) → P (entry.Std k)) → EachOf P symbols → EachOf P (with_standard symbols rows)
  unfolding with_standard
  standard_have symbols [] each h = h
  standard_have symbols (row ∷ rows) each h =
      standard_have (with_known symbols row.0 (entry.Std row.1)) rows each (known_has symbols row.0 (entry.Std row.1) h (each row.1))

  constants_have : (symbols : SymbolList) → P (number_entry (type_id 2) (pos 32767)) → P (number_entry (type_id 4) (pos 2147483647)) → P (number_entry (type_id 6) (pos 0)) → P (number_entry (type_id 6) (pos 1))
      → EachOf P symbols → EachOf P (with_constants symbols)
  unfolding with_constants
  constants_have symbols a b c d h =
      let max = known_has symbols (codes "MAXINT") (number_entry (type_id 2) (pos 32767)) h a in
      let long = known_has _ (codes "MAXLONGINT") (number_entry (type_id 4) (pos 2147483647)) max b in
      let no = known_has _ (codes "FALSE") (number_entry (type_id 6) (pos 0)) long c in
      known_has _ (codes "TRUE") (number_entry (type_id 6) (pos 1)) no d

  seven : length type_names ≤ 11
  unfolding type_names
  seven = omega arith

  predeclared_have : ((k : ℕ) → k < 11 → P (entry.Ty (type_id k))) → P (number_entry (type_id 2) (pos 32767)) → P (number_entry (type_id 4) (pos 2147483647)) → P (number_entry (type_id 6) (pos 0)) → P (number_entry (type_id 6) (pos 1))
      → ((k : ℕ) → P (entry.Std k)) → EachOf P predeclared
  unfolding predeclared
  predeclared_have types a b c d routines = standard_have _ standard routines (constants_have _ a b c d (types_have [] 0 type_names (λ k low. types k (let few = seven in omega (arith, low, few))) tt))

-- ---- the table

-- neither an object type nor one that names others but for its parts
abbrev IsSimple : TypeDef → Type 0
IsSimple (type.Ordinal host.Enumeration low high) = ⊥
IsSimple (type.Ordinal host low high) = Unit {0}
IsSimple (type.Str max) = Unit {0}
IsSimple (type.SetOf base) = Unit {0}
IsSimple _ = ⊥

abbrev AreSimple : List TypeDef → Type 0
AreSimple [] = Unit {0}
AreSimple (one ∷ rest) = IsSimple one × AreSimple rest

simple_at : (types : List TypeDef) (k : ℕ) (one : TypeDef) → AreSimple types → slice_get types k ≡ Some one → IsSimple one
simple_at [] zero one h e = let bad : ⊥ = cc in absurd bad
simple_at [] (suc k) one h e = let bad : ⊥ = cc in absurd bad
simple_at (x ∷ types) zero one h e = let same : x ≡ one = cc in subst (λ (y : TypeDef). IsSimple y) same h.0
simple_at (x ∷ types) (suc k) one h e = simple_at types k one h.1 e

all_simple : AreSimple type_list
all_simple = (tt, (tt, (tt, (tt, (tt, (tt, (tt, (tt, (tt, (tt, (tt, tt)))))))))))

simple_methods : (one : TypeDef) → IsSimple one → methods_of (Some one) ≡ []
simple_methods (type.Ordinal host low high) h = refl
simple_methods (type.Str max) h = refl
simple_methods (type.SetOf base) h = refl
simple_methods one h = absurd h

nothing_at : {A : Type 0} → (place : ℕ) (one : A) → slice_get [] place ≡ Some one → ⊥
nothing_at zero one e = let bad : ⊥ = cc in bad
nothing_at (suc place) one e = let bad : ⊥ = cc in bad

no_method : (class : TypeId) (place : ℕ) (method : Method) → slice_get (methods_of (definition type_list class)) place ≡ Some method → ⊥
no_method class place method e = by (definition type_list class) refl e
  where
    by : (d : Option TypeDef) → definition type_list class ≡ d → slice_get (methods_of d) place ≡ Some method → ⊥
    by None is k = nothing_at place method k
    by (Some one) is k = nothing_at place method (ap (λ (ms : List Method). slice_get ms place) (sym (simple_methods one (simple_at type_list class.0 one all_simple is))) ∙ k)

simple_names : (types : List TypeDef) (one : TypeDef) → IsSimple one → NamesWithin types one
simple_names types (type.Ordinal host low high) h = tt
simple_names types (type.Str max) h = tt
simple_names types (type.SetOf base) h = tt
simple_names types one h = absurd h

simple_fields : (one : TypeDef) → IsSimple one → own_fields (Some one) ≡ 0
simple_fields (type.Ordinal host low high) h = refl
simple_fields (type.Str max) h = refl
simple_fields (type.SetOf base) h = refl
simple_fields one h = absurd h

simple_parent : (one : TypeDef) → IsSimple one → members.parent_of (Some one) ≡ None
simple_parent (type.Ordinal host low high) h = refl
simple_parent (type.Str max) h = refl
simple_parent (type.SetOf base) h = refl
simple_parent one h = absurd h

none_within : (room : ℕ) (types : List TypeDef) → fields_within room types None ≡ 0
none_within zero types = refl
none_within (suc room) types = refl

nothing_more : (n : ℕ) → n ≡ 0 → 0 + n ≡ 0
nothing_more n e = omega (arith, e)

simple_within : (room : ℕ) (ty : TypeId) → fields_within room type_list (Some ty) ≡ 0
simple_within zero ty = refl
simple_within (suc room) ty = by (members.definition type_list ty) refl
  where
    by : (d : Option TypeDef) → members.definition type_list ty ≡ d → fields_within (suc room) type_list (Some ty) ≡ 0
    by None e = ap (λ (d : Option TypeDef). own_fields d + fields_within room type_list (members.parent_of d)) e ∙ nothing_more (fields_within room type_list None) (none_within room type_list)
    by (Some one) e =
        let simple = simple_at type_list ty.0 one all_simple e in
        let own = simple_fields one simple in
        let rest : fields_within room type_list (members.parent_of (Some one)) ≡ 0 = ap (λ (o : Option TypeId). fields_within room type_list o) (simple_parent one simple) ∙ none_within room type_list in
        ap (λ (d : Option TypeDef). own_fields d + fields_within room type_list (members.parent_of d)) e ∙ (let sum : own_fields (Some one) + fields_within room type_list (members.parent_of (Some one)) ≡ 0 = omega (arith, own, rest) in sum)

all_defined : AllDefined [] type_list
all_defined = search rules

all_small : (k : ℕ) (d : Layout) → k < 11 → (get_or (layouts_of type_list) k d).size ≤ 65520
all_small zero d h = let size : (get_or (layouts_of type_list) 0 d).size ≡ 1 = refl in omega (arith, size)
all_small (suc zero) d h = let size : (get_or (layouts_of type_list) 1 d).size ≡ 1 = refl in omega (arith, size)
all_small (suc (suc zero)) d h = let size : (get_or (layouts_of type_list) 2 d).size ≡ 2 = refl in omega (arith, size)
all_small (suc (suc (suc zero))) d h = let size : (get_or (layouts_of type_list) 3 d).size ≡ 2 = refl in omega (arith, size)
all_small (suc (suc (suc (suc zero)))) d h = let size : (get_or (layouts_of type_list) 4 d).size ≡ 4 = refl in omega (arith, size)
all_small (suc (suc (suc (suc (suc zero))))) d h = let size : (get_or (layouts_of type_list) 5 d).size ≡ 1 = refl in omega (arith, size)
all_small (suc (suc (suc (suc (suc (suc zero)))))) d h = let size : (get_or (layouts_of type_list) 6 d).size ≡ 1 = refl in omega (arith, size)
all_small (suc (suc (suc (suc (suc (suc (suc zero))))))) d h = let size : (get_or (layouts_of type_list) 7 d).size ≡ 256 = refl in omega (arith, size)
all_small (suc (suc (suc (suc (suc (suc (suc (suc zero)))))))) d h = let size : (get_or (layouts_of type_list) 8 d).size ≡ 32 = refl in omega (arith, size)
all_small (suc (suc (suc (suc (suc (suc (suc (suc (suc zero))))))))) d h = let size : (get_or (layouts_of type_list) 9 d).size ≡ 32 = refl in omega (arith, size)
all_small (suc (suc (suc (suc (suc (suc (suc (suc (suc (suc zero)))))))))) d h = let size : (get_or (layouts_of type_list) 10 d).size ≡ 1 = refl in omega (arith, size)
all_small (suc (suc (suc (suc (suc (suc (suc (suc (suc (suc (suc k))))))))))) d h = absurd (omega (arith, h))

-- no type has methods, and no line
simple_none : (ty : TypeId) → methods_of (definition type_list ty) ≡ []
simple_none ty = by (definition type_list ty) refl
  where
    by : (d : Option TypeDef) → definition type_list ty ≡ d → methods_of (definition type_list ty) ≡ []
    by None is = ap (λ (x : Option TypeDef). methods_of x) is
    by (Some one) is = ap (λ (x : Option TypeDef). methods_of x) is ∙ simple_methods one (simple_at type_list ty.0 one all_simple is)

line_none : (room : ℕ) (ty : Option TypeId) → methods_within room type_list ty ≡ []
line_none zero ty = refl
line_none (suc room) None = refl
line_none (suc room) (Some ty) =
    ap (λ (front : List Method). front ++ methods_of (definition type_list ty)) (line_none room (parent_of (definition type_list ty))) ∙ simple_none ty

none_distinct : IsDistinct same_bytes []
unfolding IsDistinct
none_distinct = tt

first_numbered : IsNumbered type_list
first_numbered = record {
  methods = λ ty. (let none = ap (λ (all : List Method). length all) (simple_none ty) in omega (arith, none));
  once = λ ty. subst (λ (all : List Method). IsDistinct same_bytes (map (λ (method : Method). method.name) all)) (sym (simple_none ty)) none_distinct;
  slots = λ class. (let none : length (slots_of (methods_in type_list class)) ≡ 0 = ap (λ (all : List Method). length (slots_of all)) (line_none (length type_list) (Some class)) in omega (arith, none));
}

first_sound : IsSound type_list
first_sound = record {
  begins = ([], refl);
  defined = all_defined;
  fits = λ k d low. all_small k d (let count : length (layouts_of type_list) ≡ 11 = length-layouts_of type_list in omega (arith, low, count));
  names = λ ty one e. simple_names type_list one (simple_at type_list ty.0 one all_simple e);
  room = omega arith;
  few = λ ty. (let none = simple_within 11 ty in omega (arith, none));
  numbered = first_numbered;
}

type_there : (k : ℕ) → k < 11 → IsInTable type_list (type_id k)
type_there zero h = tt
type_there (suc zero) h = tt
type_there (suc (suc zero)) h = tt
type_there (suc (suc (suc zero))) h = tt
type_there (suc (suc (suc (suc zero)))) h = tt
type_there (suc (suc (suc (suc (suc zero))))) h = tt
type_there (suc (suc (suc (suc (suc (suc zero)))))) h = tt
type_there (suc (suc (suc (suc (suc (suc (suc zero))))))) h = tt
type_there (suc (suc (suc (suc (suc (suc (suc (suc zero)))))))) h = tt
type_there (suc (suc (suc (suc (suc (suc (suc (suc (suc zero))))))))) h = tt
type_there (suc (suc (suc (suc (suc (suc (suc (suc (suc (suc zero)))))))))) h = tt
type_there (suc (suc (suc (suc (suc (suc (suc (suc (suc (suc (suc k))))))))))) h = absurd (omega (arith, h))

pub first_begun : (name : List ℕ) → IsBegun name (first name)
first_begun name =
    let s : Scope = scope_of (empty_draft (first name)) [] in
    record {
      known = record {
        has = record { types = refl; units = unit_told_from (first name); methods = λ class number method routine m r. absurd (no_method class number method m) };
        sound = first_sound;
        nested = tt;
        few = omega arith;
        placed = λ number one e. absurd (nothing_at number one e);
        predeclared = predeclared_have (IsEntry s []) type_there refl refl refl refl (λ k. tt);
        used = All-nil (EachOf (IsEntry s []));
        lasting = tt;
        blocks = tt;
      };
      none = refl;
      named = refl;
      values = record {
        predeclared = predeclared_have (IsConstantIn type_list) (λ k low. tt) (record { value = refl; whole = tt }) (record { value = refl; whole = tt }) (record { value = refl; whole = tt }) (record { value = refl; whole = tt }) (λ k. tt);
        used = All-nil (EachOf (IsConstantIn type_list));
        blocks = tt;
      };
      table = record {
        ordered = (first_complete name).ordered;
        followed = λ number low high e. absurd (simple_at type_list number (type.Ordinal host.Enumeration low high) all_simple e);
        owned = λ class place method e. absurd (no_method class place method e);
      };
    }

-- Each type of a part of type declarations gets the id that was promised.
use Rattle.std.proofs.Common.{◌≡◌, ◌∙◌, ℕ, ◌+◌, ◌-◌, ◌<◌, ◌≤◌, ◌^◌, false, List, [], ◌∷◌, ◌++◌, length, Option, Some, None, refl, sym, ap, subst, arith, length-append}
use Rattle.std.specs.Cmp.Lexicographic.{bytes_decides}
use Rattle.tp_check_decl.specs.type_layout.declared.definitions.TypeId.{TypeId}
use Rattle.tp_check_decl.specs.type_layout.declared.definitions.TypeDef.{TypeDef}
use Rattle.tp_check_decl.specs.type_layout.declared.texts.Place.{Place}
use Rattle.tp_check_decl.specs.syntax_tree.declared.type_tree.parameter.Method as written
use Rattle.tp_check_decl.specs.syntax_tree.declared.type_tree.types.TypeDenoter.{TypeDenoter}
use Rattle.tp_check_decl.specs.syntax_tree.declared.type_tree.types.TypeDenoter.TheVariants as t
use Rattle.tp_check_decl.specs.syntax_tree.declared.identifier.Identifier.{Identifier}
use Rattle.tp_check_decl.specs.syntax_tree.declared.source_tree.declaration.TypeDeclaration.{TypeDeclaration}
use Rattle.tp_check_decl.specs.scopes.declared.entries.Entry.TheVariants as entry
use Rattle.tp_check_decl.specs.scopes.declared.searches.OpenBlock.{OpenBlock}
use Rattle.tp_check_decl.specs.scopes.Members.{narrow}
use Rattle.tp_check_decl.specs.scopes.Predeclared.{type_id}
use Rattle.tp_check_decl.specs.scopes.Environment.{Environment, Meaning, named, member, find, has_innermost}
use Rattle.tp_check_decl.specs.typing_rules.declared.faults.Rule.{Rule}
use Rattle.tp_check_decl.specs.typing_rules.Sorts as sorts
use Rattle.tp_check_decl.specs.constant_checker.declared.constant_expressions.constants.Constant.{Constant}
use Rattle.tp_check_decl.specs.declaration_checker.declared.type_denoters.promises.Promise.{Promise}
use Rattle.tp_check_decl.specs.declaration_checker.type_denoters.Trees as tree
use Rattle.tp_check_decl.specs.declaration_checker.type_denoters.Trees.{Denoter, Denoters, Fields, view_denoter, view_field_row}
use Rattle.tp_check_decl.specs.declaration_checker.type_denoters.Additions.{Denoted, denoted, with_type_of, added}
use Rattle.tp_check_decl.specs.declaration_checker.type_denoters.Denoters.{Ground, ground, promise_of, range_of, enumeration_of, string_of, array_of, arrays_of, Indexes, judged, indexes_judged}
use Rattle.tp_check_decl.specs.declaration_checker.type_parts.Promised.{adds, alias_by, promised_id, promise, promises_from, promises}
use Rattle.tp_check_decl.specs.declaration_checker.type_parts.Objects.{object_allowed}
use Rattle.tp_check_decl.specs.declaration_checker.type_parts.Parts.{whole, next_routine, types_declared, type_part}
use Rattle.tables_closed.specs.types.Promises.{MeansType, HasIndex, HaveIndexes}
use Rattle.tables_closed.proofs.types.Own.{own_entry, same_count, still_own, new_own, finds_own}
use Rattle.tables_closed.proofs.types.Reading.{IsEntered, is_added, is_entered}
use Rattle.tables_closed.proofs.types.Promising.{Promised, earlier, lately, promised_by, unpromised}
use Rattle.tables_closed.proofs.types.Objects.{whole_types}
use Rattle.tables_closed.proofs.types.Parts.{LooksBack, means_named, declared, types_longer}

-- ---- which id a type gets

-- that of the last type of the table
abbrev IsLast : Denoted → Type 0
IsLast made = made.ty.0 + 1 ≡ length made.scope.types.types

last_at : (one made : Denoted) → made ≡ one → IsLast one → IsLast made
last_at one made e h = subst IsLast (sym e) h

added_last : (unit : List ℕ) (g : Environment) (place : Place) (asked : Rule) (one : TypeDef) (made : Denoted) → (added unit g place asked one).holds made → IsLast made
added_last unit g place asked one made e =
    last_at (denoted (type_id (length g.types.types)) (with_type_of unit g one)) made (is_added unit g place asked one made e).is (omega (arith, length-append g.types.types (one ∷ [])))

module _ (unit : List ℕ) (place : Place) where
  array_last : (g : Environment) (index element : TypeId) (made : Denoted) → (array_of unit g place index element).holds made → IsLast made
  unfolding array_of
  array_last g index element made e = added_last unit g place _ _ made e.made

  arrays_on : (types : List TypeId) (element made : Denoted) → IsLast element → (arrays_of unit place types element).holds made → IsLast made
  arrays_on [] element made h e = last_at element made e h
  arrays_on (index ∷ rest) element made h e = arrays_on rest e.part made (array_last element.scope index element.ty e.part e.holds) e.made

  arrays_last : (types : List TypeId) (element made : Denoted) → 1 ≤ length types → (arrays_of unit place types element).holds made → IsLast made
  arrays_last [] element made h e = absurd (omega arith)
  arrays_last (index ∷ rest) element made h e = arrays_on rest e.part made (array_last element.scope index element.ty e.part e.holds) e.made

indexes_more : (on : Ground) (g : Environment) (before : List TypeId) (all : Denoters) (made : Indexes) → (indexes_judged on g before all).holds made → length before ≤ length made.types
indexes_more on g before tree.no_denoters made e = let same : length made.types ≡ length before = ap (λ (i : Indexes). length i.types) e in omega arith
indexes_more on g before (tree.and_denoter one rest) made e = let more = indexes_more on e.part.scope (e.part.ty ∷ before) rest made e.made in omega arith

same_type : (one made : Denoted) → made ≡ one → made.ty ≡ one.ty
same_type one made e = ap (λ (d : Denoted). d.ty) e

range_first : (unit : List ℕ) (g : Environment) (place : Place) (low high : Constant) (made : Denoted) → (range_of unit g place low high).holds made → made.ty ≡ type_id (length g.types.types)
unfolding range_of
range_first unit g place low high made e =
    same_type _ made e.made.made.made ∙ same_type _ e.made.part (is_added unit g place _ _ e.made.part e.made.holds).is

enumeration_first : (unit : List ℕ) (g : Environment) (place : Place) (names : List Identifier) (made : Denoted) → (enumeration_of unit g place names).holds made → made.ty ≡ type_id (length g.types.types)
unfolding enumeration_of
enumeration_first unit g place names made e =
    same_type _ made e.made.made.made.made ∙ same_type _ e.made.part (is_added unit g place _ _ e.made.part e.made.holds).is

string_last : (unit : List ℕ) (g : Environment) (place : Place) (size : Constant) (made : Denoted) → (string_of unit g place size).holds made → IsLast made
unfolding string_of
string_last unit g place size made e = added_last unit g place _ _ made e.made

-- what is known of the id of a type that is written
abbrev IsForetold : Environment → Denoter → Denoted → Type 0
IsForetold g (tree.named one) made = MeansType (find g one.name) made.ty
IsForetold g tree.string made = made.ty ≡ sorts.string
IsForetold g (tree.enumeration place names) made = made.ty ≡ type_id (length g.types.types)
IsForetold g (tree.range low high) made = made.ty ≡ type_id (length g.types.types)
IsForetold g one made = IsLast made

judged_foretold : (on : Ground) (g : Environment) (one : Denoter) (made : Denoted) → HasIndex one → (judged on g one).holds made → IsForetold g one made
judged_foretold on g (tree.named one) made some e =
    subst (λ (x : TypeId). MeansType (find g one.name) x) (sym (same_type _ made e.made)) (means_named g one.position.place one.name e.part e.holds)
judged_foretold on g (tree.range low high) made some e = range_first on.unit g _ e.left e.right made e.made
judged_foretold on g (tree.enumeration place all) made some e = enumeration_first on.unit g place all made e
judged_foretold on g (tree.pointer one) made some e = added_last on.unit g _ _ _ made e.made
judged_foretold on g tree.string made some e = same_type _ made e
judged_foretold on g (tree.sized place size) made some e = string_last on.unit g place e.part made e.made
judged_foretold on g (tree.procedure place groups) made some e = added_last on.unit g place _ _ made e.made
judged_foretold on g (tree.function place groups result) made some e = added_last on.unit g place _ _ made e.made
judged_foretold on g (tree.object place ancestor all methods) made some e = absurd e
judged_foretold on g (tree.array place tree.no_denoters element) made some e = absurd some
judged_foretold on g (tree.array place (tree.and_denoter one rest) element) made some e =
    let first = e.holds in
    let more = indexes_more on first.part.scope (first.part.ty ∷ []) rest e.part first.made in
    arrays_last on.unit place e.part.types e.made.part made (omega arith) e.made.made
judged_foretold on g (tree.record_of place all) made some e = added_last on.unit e.part.scope place _ _ made e.made
judged_foretold on g (tree.set place element) made some e = added_last on.unit e.part.scope place _ _ made e.made

object_last : (on : Ground) (next : Option ℕ) (name : List ℕ) (g : Environment) (place : Place) (ancestor : Option Identifier) (all : Fields) (methods : List written.Method) (made : Denoted)
    → (object_allowed on next name g place ancestor all methods).holds made → IsLast made
object_last on None name g place ancestor all methods made e = absurd e
object_last on (Some first) name g place ancestor all methods made e = added_last on.unit e.made.part.scope place _ _ made e.made.made.made

whole_foretold : (on : Ground) (next : Option ℕ) (name : List ℕ) (g : Environment) (one : TypeDenoter) (made : Denoted) → HasIndex (view_denoter one) → (whole on next name g one).holds made
    → IsForetold g (view_denoter one) made
whole_foretold on next name g (t.Object' here ancestor shape fields semicolon methods) made some e = object_last on next name g here.place ancestor (view_field_row fields) methods.items made e
whole_foretold on next name g one made some e = judged_foretold on g (view_denoter one) made some e

-- ---- it is the one that was promised

-- each name that is promised is in the innermost block, with the type
abbrev HasKept : List Promise → Environment → Type 0
HasKept before g = (name : List ℕ) (ty : TypeId) → promise_of before name ≡ Some ty → own_entry g name ≡ Some (entry.Ty ty)

id_is : (ty : TypeId) (n : ℕ) → ty.0 ≡ n → ty ≡ type_id n
id_is ty n e = ap type_id e

alias_is : (one : Option Meaning) (ty : TypeId) → MeansType one ty → alias_by None one ≡ ty
alias_is None ty m = absurd m
alias_is (Some (named number (entry.Ty own))) ty m = m
alias_is (Some (named number (entry.Const own v))) ty m = absurd m
alias_is (Some (named number (entry.Var unit level k own))) ty m = absurd m
alias_is (Some (named number (entry.Code routine level header far))) ty m = absurd m
alias_is (Some (named number (entry.Std k))) ty m = absurd m
alias_is (Some (member number one)) ty m = absurd m

module _ (first : Environment) (before : List Promise) (g : Environment) (kept : HasKept before g) (looks : LooksBack before first g) where
  alias_kept : (name : List ℕ) (ty : TypeId) → MeansType (find g name) ty → alias_by (promise_of before name) (find first name) ≡ ty
  alias_kept name ty m = by (promise_of before name) refl
    where
      by : (o : Option TypeId) → promise_of before name ≡ o → alias_by o (find first name) ≡ ty
      by (Some own) e = subst (λ (x : Option Meaning). MeansType x ty) (finds_own g name (entry.Ty own) (kept name own e)) m
      by None e = alias_is (find first name) ty (looks name ty e m)

  id_kept : (one : Denoter) (made : Denoted) → IsForetold g one made → length made.scope.types.types ≡ length g.types.types + adds one → length made.scope.types.types < 2 ^ 32
      → promised_id first before (length g.types.types) one ≡ made.ty
  id_kept (tree.named one) made h l few = alias_kept one.name made.ty h
  id_kept tree.string made h l few = sym h
  id_kept (tree.enumeration place names) made h l few = sym h
  id_kept (tree.range low high) made h l few = sym h
  id_kept one made h l few =
      let last : made.ty.0 + 1 ≡ length made.scope.types.types = h in
      sym (id_is made.ty (narrow (length g.types.types + adds one) - 1) (omega arith))

some_block : (blocks : List OpenBlock) → 1 ≤ length blocks → (block : OpenBlock) × (rest : List OpenBlock) × (blocks ≡ block ∷ rest)
some_block [] h = absurd (omega arith)
some_block (block ∷ rest) h = (block, rest, refl)

-- what a name is promised to be behind a declaration, it is there
promise_kept : (before : List Promise) (own : Promise) (scope h : Environment) (ty : TypeId) → IsEntered scope own.name (entry.Ty ty) h → 1 ≤ length scope.blocks → HasKept before scope → own.ty ≡ ty
    → (name : List ℕ) (wanted : TypeId) → Promised before own name wanted → own_entry h name ≡ Some (entry.Ty wanted)
promise_kept before own scope h ty in_it some kept same name wanted (earlier f) =
    rw in_it.is (still_own scope own.name (entry.Ty ty) name (entry.Ty wanted) (kept name wanted f))
promise_kept before own scope h ty in_it some kept same name wanted (lately none alike is) =
    let b = some_block scope.blocks some in
    let named_so : name ≡ own.name = (bytes_decides name own.name).0 alike in
    let new : has_innermost scope name ≡ false = subst (λ (x : List ℕ). has_innermost scope x ≡ false) (sym named_so) in_it.new in
    rw in_it.is (new_own scope own.name (entry.Ty ty) b.0 b.1 name b.2 new alike ∙ ap (λ (x : TypeId). Some (entry.Ty x)) (sym same ∙ is))

module _ (on : Ground) (first : Environment) where
  types_kept : (next : Option ℕ) (before : List Promise) (g : Environment) (all : List TypeDeclaration) (h : Environment) → (types_declared on next g all).holds h → 1 ≤ length g.blocks
      → length h.types.types < 2 ^ 32 → HaveIndexes all → HasKept before g → LooksBack before first g → HasKept (promises_from first before (length g.types.types) all) h
  types_kept next before g [] h e some few have kept looks = let P : Environment → Type 0 = λ x. HasKept before x in subst P (sym e) kept
  types_kept next before g (one ∷ rest) h e some few have kept looks =
      let here = declared on next g one e.part e.holds in
      let made = e.holds.part in
      let types = whole_types on next one.name.name g one.denoter made e.holds.holds in
      let in_it = is_entered made.scope one.name.position.place one.name.name (entry.Ty made.ty) e.part e.holds.made in
      let more = types_longer on (next_routine next one.denoter) e.part rest h e.made in
      let long = here.long in
      let own_long = types.reads.long in
      let blocks = types.reads.blocks in
      let opened : length e.part.blocks ≡ length made.scope.blocks = ap (λ (x : Environment). length x.blocks) in_it.is ∙ same_count made.scope.blocks one.name.name (entry.Ty made.ty) in
      let count = length g.types.types in
      let id = promised_id first before count (view_denoter one.denoter) in
      let last = promise one.name.name id in
      let same : id ≡ made.ty =
      id_kept first before g kept looks (view_denoter one.denoter) made (whole_foretold on next one.name.name g one.denoter made have.0 e.holds.holds) own_long (omega arith) in
      let now : HasKept (before ++ last ∷ []) e.part =
      λ name ty p. promise_kept before last made.scope e.part made.ty in_it (omega arith) (λ n t f. types.reads.keeps n (entry.Ty t) (kept n t f)) same name ty (promised_by before last name ty p) in
      let rest_kept : HasKept (promises_from first (before ++ last ∷ []) (length e.part.types.types) rest) h =
      types_kept (next_routine next one.denoter) (before ++ last ∷ []) e.part rest h e.made (omega arith) few have.1 now
      (λ name ty none m. let un = unpromised before last name none in looks name ty un.before (here.follows name ty un.apart m)) in
      let counted : length e.part.types.types ≡ narrow (count + adds (view_denoter one.denoter)) = omega arith in
      subst (λ (c : ℕ). HasKept (promises_from first (before ++ last ∷ []) c rest) h) counted rest_kept

none_kept : (g : Environment) → HasKept [] g
none_kept g name ty e = absurd (let none : (let nothing : Option TypeId = None in nothing) ≡ Some ty = e in cc)

pub promises_kept : (unit : List ℕ) (next : Option ℕ) (g : Environment) (all : List TypeDeclaration) (h : Environment) → (type_part unit next g all).holds h → 1 ≤ length g.blocks
    → length h.types.types < 2 ^ 32 → HaveIndexes all → (name : List ℕ) (ty : TypeId) → promise_of (promises g all) name ≡ Some ty → MeansType (find h name) ty
unfolding type_part
promises_kept unit next g all h e some few have name ty p =
    let own = types_kept (ground unit (promises g all)) g next [] g all h e some few have (none_kept g) (λ n t none m. m) name ty p in
    subst (λ (o : Option Meaning). MeansType o ty) (sym (finds_own h name (entry.Ty ty) own)) refl

-- The routines that a part of type declarations leaves to come: one for each method of the object types that it declares, in order.
use Rattle.std.proofs.Common.{◌≡◌, ℕ, zero, suc, ◌+◌, ◌≤◌, true, List, [], ◌∷◌, ◌++◌, length, Option, Some, None, refl, sym, subst, ap, ◌∙◌, arith, length-append, append_assoc, append-nil}
use Rattle.std.specs.Prelude.{slice_get}
use Rattle.std.specs.Cmp.Lexicographic.{bytes_decides}
use Rattle.declarations_well_formed.specs.type_layout.declared.definitions.TypeId.{TypeId}
use Rattle.declarations_well_formed.specs.type_layout.declared.definitions.Method.{Method}
use Rattle.declarations_well_formed.specs.type_layout.declared.definitions.TypeDef.{TypeDef}
use Rattle.declarations_well_formed.specs.type_layout.declared.definitions.TypeDef.TheVariants as type
use Rattle.declarations_well_formed.specs.type_layout.declared.texts.Place.{Place}
use Rattle.declarations_well_formed.specs.type_layout.Words.{same_bytes}
use Rattle.declarations_well_formed.proofs.type_layout_proofs.Local.{slice_get-append}
use Rattle.declarations_well_formed.specs.type_layout.Table.{place_of, with_unit}
use Rattle.declarations_well_formed.specs.syntax_tree.declared.identifier.Identifier.{Identifier}
use Rattle.declarations_well_formed.specs.syntax_tree.declared.type_tree.parameter.Method as written
use Rattle.declarations_well_formed.specs.syntax_tree.declared.type_tree.types.TypeDenoter.{TypeDenoter}
use Rattle.declarations_well_formed.specs.syntax_tree.declared.type_tree.types.TypeDenoter.TheVariants as t
use Rattle.declarations_well_formed.specs.syntax_tree.declared.source_tree.declaration.TypeDeclaration.{TypeDeclaration}
use Rattle.declarations_well_formed.specs.typed_tree.type_fits.Fits.{definition, IsObject}
use Rattle.declarations_well_formed.specs.scopes.declared.entries.Entry.{Entry}
use Rattle.declarations_well_formed.specs.scopes.declared.entries.Entry.TheVariants as entry
use Rattle.declarations_well_formed.specs.scopes.declared.searches.OpenBlock.{OpenBlock}
use Rattle.declarations_well_formed.specs.scopes.Members.{narrow}
use Rattle.declarations_well_formed.specs.scopes.Predeclared.{type_id}
use Rattle.declarations_well_formed.specs.scopes.Environment.{Environment, Meaning, named, find}
use Rattle.declarations_well_formed.specs.call_rules.method_rules.Slots.{methods_of}
use Rattle.declarations_well_formed.specs.declaration_checker.type_denoters.Trees.{Fields, view_denoter, view_field_row}
use Rattle.declarations_well_formed.specs.declaration_checker.type_denoters.Additions.{Denoted, with_type_of}
use Rattle.declarations_well_formed.specs.declaration_checker.type_denoters.Denoters.{Ground, judged}
use Rattle.declarations_well_formed.specs.declaration_checker.type_parts.Objects.{is_dynamic, inside, object_allowed}
use Rattle.declarations_well_formed.specs.declaration_checker.type_parts.Parts.{whole, type_declared, method_count, next_routine, types_declared}
use Rattle.declarations_well_formed.specs.tp_check_decl.routines.Drafts.{Numbered}
use Rattle.declarations_well_formed.specs.tp_check_decl.routines.Methods.{of_methods, of_type, of_meaning, written_in, of_declaration, of_declarations}
use Rattle.declarations_well_formed.proofs.tables_closed_proofs.types.Own.{own_entry, same_count, still_own, new_own, finds_own}
use Rattle.declarations_well_formed.proofs.tables_closed_proofs.types.Reading.{is_added, is_entered}
use Rattle.declarations_well_formed.proofs.tables_closed_proofs.types.Objects.{whole_types}
use Rattle.units_well_formed.proofs.parts.Tables.{placed, AddsPlain, plain_then, entered_plain, type_plain, fields_plain}
use Rattle.units_well_formed.proofs.parts.Methods.{narrow_on, IsMade, AreMade, methods_made, AreAwaited, all_awaited}
use Rattle.units_well_formed.proofs.parts.Awaiting.{IsAwaitedAt, IsMethodAt, Awaits, nothing_at, plain_awaits, awaits_then, awaits_at}

-- ---- an object type

module _ (unit : List ℕ) (number : ℕ) (g l : Environment) (one : TypeDef) (methods : List Method) (all : List written.Method) where
  abbrev class : TypeId
  class = type_id (length l.types.types)

  abbrev behind : Environment
  behind = with_type_of unit l one

  last_is : (types : List TypeDef) → slice_get (types ++ one ∷ []) (length types) ≡ Some one
  last_is [] = refl
  last_is (first ∷ types) = last_is types

  beyond : (types : List TypeDef) (k place : ℕ) (method : Method) → length types ≤ k → slice_get (methods_of (slice_get (types ++ one ∷ []) k)) place ≡ Some method → k ≡ length types
  beyond [] zero place method h e = refl
  beyond [] (suc zero) place method h e = absurd (nothing_at place method e)
  beyond [] (suc (suc k)) place method h e = absurd (nothing_at place method e)
  beyond (first ∷ types) zero place method h e = absurd (omega (arith, h))
  beyond (first ∷ types) (suc k) place method h e = ap (λ (n : ℕ). suc n) (beyond types k place method (omega (arith, h)) e)

  same_class : (ty : TypeId) → ty.0 ≡ length l.types.types → ty ≡ class
  same_class ty e = ap type_id e

  module _ (object : IsObject (Some one)) (own : methods_of (Some one) ≡ methods) (made : AreMade (place_of l.types.units unit) number [] (length all) methods) where
    count : length methods ≡ 0 + length all
    count = let c = made.count_is in let same : length methods ≡ length made.back = ap (λ (ms : List Method). length ms) made.is in omega (arith, c, same)

    awaited : AreAwaited class methods 0 (length all) (of_methods class methods 0 all)
    awaited = all_awaited class methods 0 all count

    method_at : (place : ℕ) (method : Method) → slice_get methods place ≡ Some method → IsMade (place_of l.types.units unit) (number + place) method
    method_at place method e = made.each place method (ap (λ (ms : List Method). slice_get ms place) (sym made.is) ∙ e)

    from_none : (place : ℕ) → 0 + place ≡ place
    from_none place = omega arith

    own_methods : methods_of (definition behind.types.types class) ≡ methods
    own_methods = ap (λ (o : Option TypeDef). methods_of o) (last_is l.types.types) ∙ own

    own_each : (place : ℕ) (method : Method) → slice_get methods place ≡ Some method
        → IsAwaitedAt number (of_methods class methods 0 all) class method × (slice_get behind.types.units method.routine.unit ≡ Some unit)
    own_each place method e =
        let await = awaited.each place method (ap (λ (n : ℕ). slice_get methods n) (from_none place) ∙ e) in
        let it = method_at place method e in
        let p = placed l.types.units unit in
        (record { place = place; at = await.0; is = await.1; number_is = it.number_is }, ap (λ (n : ℕ). slice_get (with_unit l.types.units unit) n) it.unit_is ∙ p.there)

    each_new : (ty : TypeId) (place : ℕ) (method : Method) → length l.types.types ≤ ty.0 → slice_get (methods_of (definition behind.types.types ty)) place ≡ Some method
        → IsAwaitedAt number (of_methods class methods 0 all) ty method × (slice_get behind.types.units method.routine.unit ≡ Some unit)
    each_new ty place method new e =
        let is : ty ≡ class = same_class ty (beyond l.types.types ty.0 place method new e) in
        let there : slice_get methods place ≡ Some method =
        ap (λ (ms : List Method). slice_get ms place) (sym own_methods) ∙ ap (λ (c : TypeId). slice_get (methods_of (definition behind.types.types c)) place) (sym is) ∙ e in
        let it = own_each place method there in
        (subst (λ (c : TypeId). IsAwaitedAt number (of_methods class methods 0 all) c method) (sym is) it.0, it.1)

    only_new : (place : ℕ) (routine : Numbered) → slice_get (of_methods class methods 0 all) place ≡ Some routine → IsMethodAt behind.types.types (length l.types.types) (number + place) routine
    only_new place routine e =
        let it = awaited.only place routine e in
        let there : slice_get methods place ≡ Some it.1 = ap (λ (n : ℕ). slice_get methods n) (sym (from_none place)) ∙ it.2 in
        let made_so = method_at place it.1 there in
        record {
          class = class;
          new = omega arith;
          object = subst (λ (o : Option TypeDef). IsObject o) (sym (last_is l.types.types)) object;
          place = place;
          method = it.1;
          there = ap (λ (ms : List Method). slice_get ms place) own_methods ∙ there;
          at = it.0;
          is = it.3;
          number_is = made_so.number_is;
          function = made_so.function;
          few = made_so.few;
        }

    pub object_awaits : Awaits unit number l behind (of_methods class methods 0 all)
    object_awaits = record {
      types = one ∷ [];
      has_types = refl;
      units = (placed l.types.units unit).more;
      has_units = (placed l.types.units unit).grows;
      each = each_new;
      only = only_new;
    }

-- ---- declarations

-- names of the innermost block stay what they are
abbrev pub KeepsOwn : Environment → Environment → Type 0
KeepsOwn g h = (name : List ℕ) (one : Entry) → own_entry g name ≡ Some one → own_entry h name ≡ Some one

no_written : (ty : TypeId) (one : Option TypeDef) → of_type ty one [] ≡ []
no_written ty (Some (type.ObjectOf parent dynamic fields methods)) = refl
no_written ty one = refl

no_meaning : (types : List TypeDef) (one : Option Meaning) → of_meaning types one [] ≡ []
no_meaning types (Some (named n (entry.Ty ty))) = no_written ty (definition types ty)
no_meaning types one = refl

-- what a declaration awaits at the end, where the name still means the type
type_awaits : (f : Environment) (one : TypeDeclaration) (ty : TypeId) → own_entry f one.name.name ≡ Some (entry.Ty ty) → of_declaration f one ≡ of_type ty (definition f.types.types ty) (written_in one.denoter)
unfolding of_declaration
type_awaits f one ty e = ap (λ (m : Option Meaning). of_meaning f.types.types m (written_in one.denoter)) (finds_own f one.name.name (entry.Ty ty) e)

nothing_written : (f : Environment) (one : TypeDeclaration) → written_in one.denoter ≡ [] → of_declaration f one ≡ []
unfolding of_declaration
nothing_written f one e = ap (λ (all : List written.Method). of_meaning f.types.types (find f one.name.name) all) e ∙ no_meaning f.types.types (find f one.name.name)

type_of_object : (ty : TypeId) (o : Option TypeDef) (one : TypeDef) (methods : List Method) (all : List written.Method) → o ≡ Some one → methods_of (Some one) ≡ methods → IsObject (Some one)
    → of_type ty o all ≡ of_methods ty methods 0 all
type_of_object ty o (type.ObjectOf parent dynamic fields own) methods all is same object =
    ap (λ (x : Option TypeDef). of_type ty x all) is ∙ ap (λ (ms : List Method). of_methods ty ms 0 all) same
type_of_object ty o one methods all is same object = absurd object

-- the type of one declaration, with the routines that it awaits, at the end of the part
pub record IsDeclaredSo (unit : List ℕ) (number count : ℕ) (g : Environment) (made : Denoted) (all : List written.Method) : Type 0 where
  pub news : List Numbered
  pub awaits : Awaits unit number g made.scope news
  pub count_is : length news ≡ count
  -- as long as the table has the type
  pub at_end : (back : List TypeDef) → of_type made.ty (definition (made.scope.types.types ++ back) made.ty) all ≡ news

module _ (on : Ground) where
  plain_declared : (number : ℕ) (g : Environment) (one : TypeDenoter) (made : Denoted) → (judged on g (view_denoter one)).holds made → written_in one ≡ [] → method_count one ≡ 0
      → IsDeclaredSo on.unit number (method_count one) g made (written_in one)
  plain_declared number g one made k none count = record {
    news = [];
    awaits = plain_awaits on.unit number g made.scope (type_plain (view_denoter one) on g made k);
    count_is = sym count;
    at_end = λ back. ap (λ (all : List written.Method). of_type made.ty (definition (made.scope.types.types ++ back) made.ty) all) none ∙ no_written made.ty (definition (made.scope.types.types ++ back) made.ty);
  }

  object_declared : (number first : ℕ) (name : List ℕ) (g : Environment) (place : Place) (ancestor : Option Identifier) (groups : Fields) (all : List written.Method) (made : Denoted) → first ≡ narrow number
      → (object_allowed on (Some first) name g place ancestor groups all).holds made → IsDeclaredSo on.unit number (length all) g made all
  object_declared number first name g place ancestor groups all made at k =
      let parent : Option TypeId = k.part in
      let inner = k.made in
      let l : Environment = inner.part.scope in
      let m = inner.made in
      let methods : List Method = m.part in
      let one : TypeDef = type.ObjectOf parent (is_dynamic methods) inner.part.fields methods in
      let made_is = (is_added on.unit l place _ one made m.made).is in
      let ty_is : made.ty ≡ type_id (length l.types.types) = ap (λ (d : Denoted). d.ty) made_is in
      let scope_is : made.scope ≡ with_type_of on.unit l one = ap (λ (d : Denoted). d.scope) made_is in
      let numbered = methods_made (inside l name) (place_of l.types.units on.unit) number first inner.part.fields [] all methods at m.holds in
      let news : List Numbered = of_methods (type_id (length l.types.types)) methods 0 all in
      let here = object_awaits on.unit number g l one methods all tt refl numbered in
      let before = plain_awaits on.unit number g l (fields_plain groups on g [] inner.part inner.holds) in
      let none_more : number + 0 ≡ number = omega arith in
      let whole = awaits_then on.unit number g l (with_type_of on.unit l one) [] news before (subst (λ (n : ℕ). Awaits on.unit n l (with_type_of on.unit l one) news) (sym none_more) here) in
      let count = all_awaited (type_id (length l.types.types)) methods 0 all (let c = numbered.count_is in let same : length methods ≡ length numbered.back = ap (λ (ms : List Method). length ms) numbered.is in omega (arith, c, same)) in
      record {
        news = news;
        awaits = subst (λ (e : Environment). Awaits on.unit number g e news) (sym scope_is) whole;
        count_is = count.count_is;
        at_end = λ back.
            let there : definition ((l.types.types ++ one ∷ []) ++ back) (type_id (length l.types.types)) ≡ Some one =
            slice_get-append (l.types.types ++ one ∷ []) back (length l.types.types) (let c = length-append l.types.types (one ∷ []) in omega (arith, c)) ∙ last_at l.types.types one in
            let end : of_type (type_id (length l.types.types)) (definition ((l.types.types ++ one ∷ []) ++ back) (type_id (length l.types.types))) all ≡ news =
            type_of_object (type_id (length l.types.types)) (definition ((l.types.types ++ one ∷ []) ++ back) (type_id (length l.types.types))) one methods all there refl tt in
            ap (λ (d : Denoted). of_type d.ty (definition (d.scope.types.types ++ back) d.ty) all) made_is ∙ end;
      }
    where
      last_at : (types : List TypeDef) (x : TypeDef) → slice_get (types ++ x ∷ []) (length types) ≡ Some x
      last_at [] x = refl
      last_at (y ∷ types) x = last_at types x

  whole_declared : (number first : ℕ) (name : List ℕ) (g : Environment) (one : TypeDenoter) (made : Denoted) → first ≡ narrow number → (whole on (Some first) name g one).holds made
      → IsDeclaredSo on.unit number (method_count one) g made (written_in one)
  whole_declared number first name g (t.Object' here ancestor shape fields semicolon methods) made at k =
      object_declared number first name g here.place ancestor (view_field_row fields) methods.items made at k
  whole_declared number first name g one made at k = plain_declared number g one made k refl refl

  -- where no object types may stand
  pub plain_whole : (name : List ℕ) (g : Environment) (one : TypeDenoter) (made : Denoted) → (whole on None name g one).holds made → AddsPlain g made.scope × (written_in one ≡ [])
  plain_whole name g (t.Object' here ancestor shape fields semicolon methods) made k = absurd k
  plain_whole name g one made k = (type_plain (view_denoter one) on g made k, refl)

some_block : (blocks : List OpenBlock) → 1 ≤ length blocks → (block : OpenBlock) × (rest : List OpenBlock) × (blocks ≡ block ∷ rest)
some_block [] h = absurd (omega (arith, h))
some_block (block ∷ rest) h = (block, rest, refl)

module _ (on : Ground) (next : Option ℕ) (g h : Environment) (one : TypeDeclaration) (k : (type_declared on next g one).holds h) (some : 1 ≤ length g.blocks) where
  more_blocks : length k.part.scope.blocks ≡ length g.blocks
  more_blocks = (whole_types on next one.name.name g one.denoter k.part k.holds).reads.blocks

  name_is : own_entry h one.name.name ≡ Some (entry.Ty k.part.ty)
  name_is =
      let in_it = is_entered k.part.scope one.name.position.place one.name.name (entry.Ty k.part.ty) h k.made in
      let count = more_blocks in
      let b = some_block k.part.scope.blocks (omega (arith, count, some)) in
      let itself : same_bytes one.name.name one.name.name ≡ true = (bytes_decides one.name.name one.name.name).1 refl in
      ap (λ (e : Environment). own_entry e one.name.name) in_it.is ∙ new_own k.part.scope one.name.name (entry.Ty k.part.ty) b.0 b.1 one.name.name b.2 in_it.new itself

  names_kept : KeepsOwn g h
  names_kept name other e =
      let in_it = is_entered k.part.scope one.name.position.place one.name.name (entry.Ty k.part.ty) h k.made in
      let kept = (whole_types on next one.name.name g one.denoter k.part k.holds).reads.keeps name other e in
      ap (λ (x : Environment). own_entry x name) in_it.is ∙ still_own k.part.scope one.name.name (entry.Ty k.part.ty) name other kept

  blocks_kept : 1 ≤ length h.blocks
  blocks_kept =
      let in_it = is_entered k.part.scope one.name.position.place one.name.name (entry.Ty k.part.ty) h k.made in
      let same : length h.blocks ≡ length k.part.scope.blocks = ap (λ (x : Environment). length x.blocks) in_it.is ∙ same_count k.part.scope.blocks one.name.name (entry.Ty k.part.ty) in
      let count = more_blocks in
      omega (arith, same, count, some)

  table_kept : h.types ≡ k.part.scope.types
  table_kept = ap (λ (x : Environment). x.types) (is_entered k.part.scope one.name.position.place one.name.name (entry.Ty k.part.ty) h k.made).is

-- names stay through further declarations
names_on : (on : Ground) (next : Option ℕ) (g : Environment) (all : List TypeDeclaration) (h : Environment) → (types_declared on next g all).holds h → 1 ≤ length g.blocks → KeepsOwn g h
names_on on next g [] h k some name one e = ap (λ (x : Environment). own_entry x name) k ∙ e
names_on on next g (one ∷ rest) h k some name other e =
    names_on on (next_routine next one.denoter) k.part rest h k.made (blocks_kept on next g k.part one k.holds some) name other (names_kept on next g k.part one k.holds some name other e)

-- of all declarations of a part that has a number for the next routine
pub types_await : (on : Ground) (number first : ℕ) (g : Environment) (all : List TypeDeclaration) (h f : Environment) (back : List TypeDef) → first ≡ narrow number → (types_declared on (Some first) g all).holds h
    → 1 ≤ length g.blocks → KeepsOwn h f → f.types.types ≡ h.types.types ++ back → Awaits on.unit number g h (of_declarations f all)
types_await on number first g [] h f back at k some kept longer = awaits_at on.unit number g g h [] (ap (λ (x : Environment). x.types) k) (plain_awaits on.unit number g g (record { types = []; has_types = sym (append-nil g.types.types); plain = tt; units = []; has_units = sym (append-nil g.types.units) }))
types_await on number first g (one ∷ rest) h f back at k some kept longer =
    let step = k.holds in
    let made : Denoted = step.part in
    let so = whole_declared on number first one.name.name g one.denoter made at step.holds in
    let some_next = blocks_kept on (Some first) g k.part one k.holds some in
    let here : Awaits on.unit number g k.part so.news = awaits_at on.unit number g made.scope k.part so.news (table_kept on (Some first) g k.part one k.holds some) so.awaits in
    let next : narrow (first + method_count one.denoter) ≡ narrow (number + method_count one.denoter) = ap (λ (n : ℕ). narrow (n + method_count one.denoter)) at ∙ narrow_on number (method_count one.denoter) in
    let others = types_await on (number + method_count one.denoter) (narrow (first + method_count one.denoter)) k.part rest h f back next k.made some_next kept longer in
    let count : number + method_count one.denoter ≡ number + length so.news = (let c = so.count_is in omega (arith, c)) in
    let whole = awaits_then on.unit number g k.part h so.news (of_declarations f rest) here (subst (λ (n : ℕ). Awaits on.unit n k.part h (of_declarations f rest)) count others) in
    let own : own_entry f one.name.name ≡ Some (entry.Ty made.ty) =
    kept one.name.name (entry.Ty made.ty) (names_on on (next_routine (Some first) one.denoter) k.part rest h k.made some_next one.name.name (entry.Ty made.ty) (name_is on (Some first) g k.part one k.holds some)) in
    let same_table : k.part.types.types ≡ made.scope.types.types = ap (λ t. t.types) (table_kept on (Some first) g k.part one k.holds some) in
    let grown : f.types.types ≡ made.scope.types.types ++ (others.types ++ back) =
    longer ∙ ap (λ (types : List TypeDef). types ++ back) (others.has_types ∙ ap (λ (types : List TypeDef). types ++ others.types) same_table) ∙ append_assoc made.scope.types.types others.types back in
    let declared : of_declaration f one ≡ so.news =
    type_awaits f one made.ty own ∙ ap (λ (types : List TypeDef). of_type made.ty (definition types made.ty) (written_in one.denoter)) grown ∙ so.at_end (others.types ++ back) in
    subst (λ (news : List Numbered). Awaits on.unit number g h (news ++ of_declarations f rest)) (sym declared) whole

-- of one that has none
pub plain_types : (on : Ground) (g : Environment) (all : List TypeDeclaration) (h f : Environment) → (types_declared on None g all).holds h → AddsPlain g h × (of_declarations f all ≡ [])
plain_types on g [] h f k = (record { types = []; has_types = ap (λ (x : Environment). x.types.types) k ∙ sym (append-nil g.types.types); plain = tt; units = []; has_units = ap (λ (x : Environment). x.types.units) k ∙ sym (append-nil g.types.units) }, refl)
plain_types on g (one ∷ rest) h f k =
    let step = k.holds in
    let here = plain_whole on one.name.name g one.denoter step.part step.holds in
    let named = entered_plain step.part.scope one.name.position.place one.name.name _ k.part step.made in
    let others = plain_types on k.part rest h f k.made in (
      plain_then g k.part h (plain_then g step.part.scope k.part here.0 named) others.0,
      ap (λ (first : List Numbered). first ++ of_declarations f rest) (nothing_written f one here.1) ∙ others.1,
    )

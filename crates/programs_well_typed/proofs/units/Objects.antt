-- A part of type declarations leaves routines to come that are methods of its object types; a type that has a constructor or a destructor is dynamic.
use Rattle.std.proofs.Common.{◌≡◌, ◌∙◌, ℕ, zero, suc, ◌+◌, ◌≤◌, Bool, true, false, ◌||◌, List, [], ◌∷◌, ◌++◌, length, Option, Some, None, is_some, refl, sym, ap, subst, arith, append_assoc, append-nil}
use Rattle.std.specs.Prelude.{slice_get}
use Rattle.shared_types_agree.specs.type_layout.declared.definitions.TypeId.{TypeId}
use Rattle.shared_types_agree.specs.type_layout.declared.definitions.Field.{Field}
use Rattle.shared_types_agree.specs.type_layout.declared.definitions.Kind.{Kind}
use Rattle.shared_types_agree.specs.type_layout.declared.definitions.Kind.TheVariants as kind
use Rattle.shared_types_agree.specs.type_layout.declared.definitions.Method.{Method}
use Rattle.shared_types_agree.specs.type_layout.declared.definitions.TypeDef.{TypeDef}
use Rattle.shared_types_agree.specs.type_layout.declared.definitions.TypeDef.TheVariants as type
use Rattle.shared_types_agree.specs.type_layout.declared.texts.Place.{Place}
use Rattle.shared_types_agree.specs.syntax_tree.declared.identifier.Identifier.{Identifier}
use Rattle.shared_types_agree.specs.syntax_tree.declared.type_tree.parameter.Method as written
use Rattle.shared_types_agree.specs.syntax_tree.declared.type_tree.types.TypeDenoter.{TypeDenoter}
use Rattle.shared_types_agree.specs.syntax_tree.declared.type_tree.types.TypeDenoter.TheVariants as t
use Rattle.shared_types_agree.specs.syntax_tree.declared.source_tree.declaration.TypeDeclaration.{TypeDeclaration}
use Rattle.shared_types_agree.specs.typed_tree.type_fits.Fits.{definition}
use Rattle.shared_types_agree.specs.scopes.Members.{narrow}
use Rattle.shared_types_agree.specs.scopes.Environment.{Environment}
use Rattle.shared_types_agree.specs.call_rules.method_rules.Slots.{methods_of}
use Rattle.shared_types_agree.specs.declaration_checker.type_denoters.Trees.{Fields, view_denoter, view_field_row}
use Rattle.shared_types_agree.specs.declaration_checker.type_denoters.Additions.{Denoted, with_type_of}
use Rattle.shared_types_agree.specs.declaration_checker.type_denoters.Denoters.{Ground, ground}
use Rattle.shared_types_agree.specs.declaration_checker.type_parts.Promised.{promises}
use Rattle.shared_types_agree.specs.declaration_checker.type_parts.Objects.{has_class, is_dynamic, object_allowed}
use Rattle.shared_types_agree.specs.declaration_checker.type_parts.Parts.{whole, next_routine, types_declared, type_part}
use Rattle.shared_types_agree.specs.declaration_checker.declared.declarations.homes.Home.{Home}
use Rattle.shared_types_agree.specs.declaration_checker.declared.declarations.homes.Home.TheVariants as home
use Rattle.shared_types_agree.specs.tp_check_decl.routines.Drafts.{Numbered, next_for}
use Rattle.shared_types_agree.specs.tp_check_decl.routines.Methods.{method_announced, awaiting, of_declarations}
use Rattle.shared_types_agree.specs.program_typing.programs.WellTyped.{NeedsClass}
use Rattle.shared_types_agree.proofs.tables_closed_proofs.types.Reading.{is_added}
use Rattle.shared_types_agree.proofs.units_well_formed_proofs.units.Below.{ArePlain, AddsPlain, none_added, entered_plain, type_plain, fields_plain, IsMethodAt, nothing_at, types_await, plain_types}
use Rattle.programs_well_typed.proofs.units.Each.{Each, each_from}
use Rattle.programs_well_typed.proofs.units.Dynamic.{dynamic_by, IsDynamic, dynamic_more}

-- ---- types that are added

-- a type with a constructor or a destructor is dynamic
abbrev pub IsClassed : TypeDef → Type 0
IsClassed one = (place : ℕ) (method : Method) → slice_get (methods_of (Some one)) place ≡ Some method → NeedsClass method.header.kind → dynamic_by (Some one) ≡ true

abbrev pub AreClassed : List TypeDef → Type 0
AreClassed types = Each IsClassed types

classed_on : (xs ys : List TypeDef) → AreClassed xs → AreClassed ys → AreClassed (xs ++ ys)
classed_on [] ys h k = k
classed_on (one ∷ xs) ys h k = (h.0, classed_on xs ys h.1 k)

-- further types, each of which is so
pub record AddsClassed (g h : Environment) : Type 0 where
  pub types : List TypeDef
  pub has_types : h.types.types ≡ g.types.types ++ types
  pub classed : AreClassed types

then : (g h k : Environment) → AddsClassed g h → AddsClassed h k → AddsClassed g k
then g h k a b = record {
  types = a.types ++ b.types;
  has_types = b.has_types ∙ ap (λ (l : List TypeDef). l ++ b.types) a.has_types ∙ append_assoc g.types.types a.types b.types;
  classed = classed_on a.types b.types a.classed b.classed;
}

plain_classed : (types : List TypeDef) → ArePlain types → AreClassed types
plain_classed [] h = tt
plain_classed (one ∷ rest) h =
    (λ place method there made. absurd (nothing_at place method (ap (λ (methods : List Method). slice_get methods place) (sym h.0) ∙ there)), plain_classed rest h.1)

of_plain : (g h : Environment) → AddsPlain g h → AddsClassed g h
of_plain g h a = record { types = a.types; has_types = a.has_types; classed = plain_classed a.types a.plain }

-- ---- an object type

or_left : (a b : Bool) → a ≡ true → (a || b) ≡ true
or_left true b e = refl
or_left false b e = (let bad : false ≡ true = e in cc)

or_right : (a b : Bool) → b ≡ true → (a || b) ≡ true
or_right true b e = refl
or_right false b e = e

class_needed : (k : Kind) → NeedsClass k → has_class k ≡ true
class_needed kind.Constructor h = refl
class_needed kind.Destructor h = refl
class_needed kind.Procedure h = absurd h
class_needed kind.Function h = absurd h

dynamic_with : (methods : List Method) (place : ℕ) (method : Method) → slice_get methods place ≡ Some method → NeedsClass method.header.kind → is_dynamic methods ≡ true
dynamic_with [] place method there made = absurd (nothing_at place method there)
dynamic_with (one ∷ rest) zero method there made =
    let same : one ≡ method = cc in
    let class : has_class one.header.kind ≡ true = ap (λ (m : Method). has_class m.header.kind) same ∙ class_needed method.header.kind made in
    or_left (one.is_virtual || has_class one.header.kind) (is_dynamic rest) (or_right one.is_virtual (has_class one.header.kind) class)
dynamic_with (one ∷ rest) (suc place) method there made =
    or_right (one.is_virtual || has_class one.header.kind) (is_dynamic rest) (dynamic_with rest place method there made)

object_classed : (parent : Option TypeId) (fields : List Field) (methods : List Method) → IsClassed (type.ObjectOf parent (is_dynamic methods) fields methods)
object_classed parent fields methods place method there made = dynamic_with methods place method there made

module _ (on : Ground) where
  allowed_classed : (next : Option ℕ) (name : List ℕ) (g : Environment) (place : Place) (ancestor : Option Identifier) (groups : Fields) (all : List written.Method) (made : Denoted)
      → (object_allowed on next name g place ancestor groups all).holds made → AddsClassed g made.scope
  allowed_classed None name g place ancestor groups all made k = absurd k
  allowed_classed (Some first) name g place ancestor groups all made k =
      let inner = k.made in
      let l : Environment = inner.part.scope in
      let m = inner.made in
      let one : TypeDef = type.ObjectOf k.part (is_dynamic m.part) inner.part.fields m.part in
      let is : made.scope ≡ with_type_of on.unit l one = ap (λ (d : Denoted). d.scope) (is_added on.unit l place _ one made m.made).is in
      let last : AddsClassed l (with_type_of on.unit l one) = record { types = one ∷ []; has_types = refl; classed = (object_classed k.part inner.part.fields m.part, tt) } in
      then g l made.scope (of_plain g l (fields_plain groups on g [] inner.part inner.holds)) (subst (λ (h : Environment). AddsClassed l h) (sym is) last)

  whole_classed : (next : Option ℕ) (name : List ℕ) (g : Environment) (one : TypeDenoter) (made : Denoted) → (whole on next name g one).holds made → AddsClassed g made.scope
  whole_classed next name g (t.Object' here ancestor shape fields semicolon methods) made k = allowed_classed next name g here.place ancestor (view_field_row fields) methods.items made k
  whole_classed next name g one made k = of_plain g made.scope (type_plain (view_denoter one) on g made k)

  types_classed : (next : Option ℕ) (g : Environment) (all : List TypeDeclaration) (h : Environment) → (types_declared on next g all).holds h → AddsClassed g h
  types_classed next g [] h k = of_plain g h (none_added g h (ap (λ (x : Environment). x.types) k))
  types_classed next g (one ∷ rest) h k =
      let step = k.holds in
      then g k.part h
      (then g step.part.scope k.part (whole_classed next one.name.name g one.denoter step.part step.holds) (of_plain step.part.scope k.part (entered_plain step.part.scope _ _ _ k.part step.made)))
      (types_classed (next_routine next one.denoter) k.part rest h k.made)

pub part_classed : (unit : List ℕ) (next : Option ℕ) (g : Environment) (all : List TypeDeclaration) (h : Environment) → (type_part unit next g all).holds h → AddsClassed g h
unfolding type_part
part_classed unit next g all h k = types_classed (ground unit (promises g all)) next g all h k

classed_there : (front back : List TypeDef) (k place : ℕ) (method : Method) → AreClassed back → length front ≤ k → slice_get (methods_of (slice_get (front ++ back) k)) place ≡ Some method
    → NeedsClass method.header.kind → dynamic_by (slice_get (front ++ back) k) ≡ true
classed_there [] [] zero place method c h e made = absurd (nothing_at place method e)
classed_there [] [] (suc k) place method c h e made = absurd (nothing_at place method e)
classed_there [] (one ∷ back) zero place method c h e made = c.0 place method e made
classed_there [] (one ∷ back) (suc k) place method c h e made = classed_there [] back k place method c.1 (omega arith) e made
classed_there (one ∷ front) back zero place method c h e made = absurd (omega (arith, h))
classed_there (one ∷ front) back (suc k) place method c h e made = classed_there front back k place method c (omega (arith, h)) e made

-- ---- routines by their headers

-- A method is declared in no other routine; the type of a constructor or a destructor is dynamic.
pub record IsSoundSlot (types : List TypeDef) (one : Numbered) : Type 0 where
  pub method : is_some one.first.owner ≡ true → one.first.outer ≡ None
  pub class : NeedsClass one.first.header.kind → IsDynamic types one.first.owner

pub slot_more : (front back : List TypeDef) (one : Numbered) → IsSoundSlot front one → IsSoundSlot (front ++ back) one
slot_more front back one h = record { method = h.method; class = λ made. dynamic_more front back one.first.owner (h.class made) }

-- those of the object types of a part
awaited_sound : (g h : Environment) → AddsClassed g h → (number : ℕ) (one : Numbered) → IsMethodAt h.types.types (length g.types.types) number one → IsSoundSlot h.types.types one
awaited_sound g h a number one m =
    let there : slice_get (methods_of (definition (g.types.types ++ a.types) m.class)) m.place ≡ Some m.method =
    ap (λ (types : List TypeDef). slice_get (methods_of (definition types m.class)) m.place) (sym a.has_types) ∙ m.there in
    let slot : IsSoundSlot h.types.types (awaiting (method_announced m.class m.at m.method)) = record {
      method = λ some. refl;
      class = λ made. ap (λ (types : List TypeDef). dynamic_by (definition types m.class)) a.has_types ∙ classed_there g.types.types a.types m.class.0 m.place m.method a.classed m.new there made;
    } in
    subst (λ (x : Numbered). IsSoundSlot h.types.types x) (sym m.is) slot

pub types_sound : (unit : List ℕ) (where_at : Home) (number : ℕ) (g h : Environment) (all : List TypeDeclaration) → 1 ≤ length g.blocks → (type_part unit (next_for where_at (narrow number)) g all).holds h
    → Each (IsSoundSlot h.types.types) (of_declarations h all)
unfolding type_part
types_sound unit home.Unit number g h all some k =
    let on : Ground = ground unit (promises g all) in
    let a = types_await on number (narrow number) g all h h [] refl k some (λ name one e. e) (sym (append-nil h.types.types)) in
    let c = types_classed on (Some (narrow number)) g all h k in
    each_from (IsSoundSlot h.types.types) (of_declarations h all) (λ place one there. awaited_sound g h c (number + place) one (a.only place one there))
types_sound unit (home.Routine level first) number g h all some k =
    let it = plain_types (ground unit (promises g all)) g all h h k in
    subst (λ (news : List Numbered). Each (IsSoundSlot h.types.types) news) (sym it.1) tt

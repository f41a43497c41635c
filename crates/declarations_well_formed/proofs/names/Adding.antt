-- One type more, one name more, and declarations one after the other.
use Rattle.std.proofs.Common.{◌≡◌, ℕ, ◌+◌, List, [], ◌∷◌, ◌++◌, length, Option, Some, None, refl, sym, subst, ap, ◌∙◌, append-nil, append_assoc}
use Rattle.std.proofs.Math.IntN.{ℤ}
use Rattle.std.specs.Prelude.{slice_get}
use Rattle.bodies_well_formed.specs.type_layout.declared.definitions.TypeId.{TypeId}
use Rattle.bodies_well_formed.specs.type_layout.declared.definitions.TypeDef.{TypeDef}
use Rattle.bodies_well_formed.specs.type_layout.declared.definitions.TypeDef.TheVariants as type
use Rattle.bodies_well_formed.specs.type_layout.declared.texts.Place.{Place}
use Rattle.bodies_well_formed.specs.type_layout.Table.{Table}
use Rattle.bodies_well_formed.specs.typed_tree.declared.expressions.Value.TheVariants as value
use Rattle.bodies_well_formed.specs.typed_tree.type_fits.Fits.{definition, IsSome, IsValue}
use Rattle.bodies_well_formed.specs.scopes.declared.entries.Entry.{Entry}
use Rattle.bodies_well_formed.specs.scopes.declared.entries.Entry.TheVariants as entry
use Rattle.bodies_well_formed.specs.scopes.Symbols.{SymbolList}
use Rattle.bodies_well_formed.specs.scopes.Predeclared.{type_id}
use Rattle.bodies_well_formed.specs.scopes.Environment.{Environment, with_name}
use Rattle.bodies_well_formed.specs.typing_rules.declared.faults.Rule.{Rule}
use Rattle.imported_types_agree.specs.declaration_checker.type_denoters.Additions.{with_type_of, Denoted, denoted, added, entered}
use Rattle.bodies_well_formed.proofs.well_formed_proofs.weakening.Types.{more_kept, some_of}
use Rattle.declarations_well_formed.specs.names.Declaring.{typing, with_names, HasSet, IsOfType, AreOfTypes, Declares}

-- ---- names stay known as types follow

number_some : (types : List TypeDef) (n : ℤ) (d : Option TypeDef) → IsValue types (value.Number n) d → IsSome d
number_some types n (Some one) h = tt
number_some types n None h = h

number_over : (types more : List TypeDef) (n : ℤ) (d : Option TypeDef) → IsValue types (value.Number n) d → IsValue more (value.Number n) d
number_over types more n (Some (type.Ordinal host low high)) h = h
number_over types more n d h = absurd h

pub set_kept : (front back : List TypeDef) (ty : TypeId) → HasSet front ty → HasSet (front ++ back) ty
set_kept front back ty h = more_kept front back (type_id (ty.0 + 1)) (some_of (definition front (type_id (ty.0 + 1))) (type.SetOf ty) h) ∙ h

pub of_type_kept : (front back : List TypeDef) (one : Entry) → IsOfType front one → IsOfType (front ++ back) one
of_type_kept front back (entry.Ty ty) h = tt
of_type_kept front back (entry.Const ty (value.Number n)) h =
    let same = more_kept front back ty (number_some front n (definition front ty) h.0) in (
      subst (λ (d : Option TypeDef). IsValue (front ++ back) (value.Number n) d) (sym same) (number_over front (front ++ back) n (definition front ty) h.0),
      set_kept front back ty h.1,
    )
of_type_kept front back one h = absurd h

of_types_kept : (front back : List TypeDef) (names : SymbolList) → AreOfTypes front names → AreOfTypes (front ++ back) names
of_types_kept front back [] h = tt
of_types_kept front back (one ∷ rest) h = (of_type_kept front back one.1 h.0, of_types_kept front back rest h.1)

of_types_joined : (types : List TypeDef) (names more : SymbolList) → AreOfTypes types names → AreOfTypes types more → AreOfTypes types (names ++ more)
of_types_joined types [] more h k = k
of_types_joined types (one ∷ rest) more h k = (h.0, of_types_joined types rest more h.1 k)

-- ---- declarations one after the other

pub names_joined : (g : Environment) (names more : SymbolList) → with_names (with_names g names) more ≡ with_names g (names ++ more)
names_joined g [] more = refl
names_joined g (one ∷ rest) more = names_joined (with_name g one.0 one.1) rest more

-- names and types are apart
pub names_typed : (g : Environment) (types : Table) (names : SymbolList) → typing (with_names g names) types ≡ with_names (typing g types) names
names_typed g types [] = refl
names_typed g types (one ∷ rest) = names_typed (with_name g one.0 one.1) types rest

pub nothing : (g : Environment) → Declares g g
nothing g = record { names = []; whole = refl; more = ([], sym (append-nil g.types.types)); known = tt }

pub behind : (g h k : Environment) → Declares g h → Declares h k → Declares g k
behind g h k first second =
    let typed : typing h k.types ≡ with_names (typing g k.types) first.names =
    ap (λ (e : Environment). typing e k.types) first.whole ∙ names_typed (typing g h.types) k.types first.names in
    let front = first.more in
    let back = second.more in
    let longer : k.types.types ≡ g.types.types ++ (front.0 ++ back.0) =
    back.1 ∙ ap (λ (t : List TypeDef). t ++ back.0) front.1 ∙ append_assoc g.types.types front.0 back.0 in
    let kept : AreOfTypes k.types.types first.names =
    subst (λ (t : List TypeDef). AreOfTypes t first.names) (sym back.1) (of_types_kept h.types.types back.0 first.names first.known) in
    record {
      names = first.names ++ second.names;
      whole = second.whole ∙ ap (λ (e : Environment). with_names e second.names) typed ∙ names_joined (typing g k.types) first.names second.names;
      more = (front.0 ++ back.0, longer);
      known = of_types_joined k.types.types first.names second.names kept second.known;
    }

-- ---- a name

pub entered_is : (g h : Environment) (place : Place) (word : List ℕ) (one : Entry) → (entered g place word one).holds h → h ≡ with_name g word one
unfolding entered
entered_is g h place word one k = k.made

pub name_declares : (g h : Environment) (place : Place) (word : List ℕ) (one : Entry) → IsOfType g.types.types one → (entered g place word one).holds h → Declares g h
name_declares g h place word one known k =
    subst (λ (e : Environment). Declares g e) (sym (entered_is g h place word one k))
    (record { names = (word, one) ∷ []; whole = refl; more = ([], sym (append-nil g.types.types)); known = (known, tt) })

-- ---- a type

pub added_is : (unit : List ℕ) (g : Environment) (place : Place) (asked : Rule) (one : TypeDef) (made : Denoted) → (added unit g place asked one).holds made
    → made ≡ denoted (type_id (length g.types.types)) (with_type_of unit g one)
unfolding added
added_is unit g place asked one made h =
    let second = h.made in
    second.made

pub added_declares : (unit : List ℕ) (g : Environment) (place : Place) (asked : Rule) (one : TypeDef) (made : Denoted) → (added unit g place asked one).holds made → Declares g made.scope
added_declares unit g place asked one made h =
    subst (λ (m : Denoted). Declares g m.scope) (sym (added_is unit g place asked one made h)) (record { names = []; whole = refl; more = (one ∷ [], refl); known = tt })

get_last : {A : Type 0} → (xs : List A) (x : A) → slice_get (xs ++ x ∷ []) (length xs) ≡ Some x
get_last [] x = refl
get_last (y ∷ ys) x = get_last ys x

-- the type that was added
pub last_is : (unit : List ℕ) (g : Environment) (place : Place) (asked : Rule) (one : TypeDef) (made : Denoted) → (added unit g place asked one).holds made → definition made.scope.types.types made.ty ≡ Some one
last_is unit g place asked one made h = ap (λ (m : Denoted). definition m.scope.types.types m.ty) (added_is unit g place asked one made h) ∙ get_last g.types.types one

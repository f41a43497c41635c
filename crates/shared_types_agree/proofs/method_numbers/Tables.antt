-- Methods stay as they were declared where types come into another table.
use Rattle.std.proofs.Common.{◌≡◌, ◌∙◌, refl, ℕ, zero, suc, Bool, true, false, ◌||◌, cond, List, [], ◌∷◌, ◌++◌, length, map, Option, Some, None, sym, ap, subst}
use Rattle.std.specs.Prelude.{slice_get}
use Rattle.std.specs.List.{IsDistinct}
use Rattle.std.proofs.lemmas.Simd.{map-map}
use Rattle.unit_references.specs.type_layout.declared.definitions.TypeId.{TypeId}
use Rattle.unit_references.specs.type_layout.declared.definitions.Method.{Method}
use Rattle.unit_references.specs.type_layout.declared.definitions.Origin.{Origin}
use Rattle.unit_references.specs.type_layout.declared.definitions.TypeDef.{TypeDef}
use Rattle.unit_references.specs.type_layout.declared.definitions.TypeDef.TheVariants as type
use Rattle.unit_references.specs.type_layout.Words.{same_bytes}
use Rattle.unit_references.specs.type_layout.Table.{Table}
use Rattle.unit_references.specs.typed_tree.declared.units.Unit as typed
use Rattle.units_well_formed.specs.scopes.Predeclared.{type_list}
use Rattle.units_well_formed.specs.unit_interface.declared.interfaces.Interface.{Interface}
use Rattle.units_well_formed.specs.unit_interface.Merge.{renumbered, renumbered_method, with_listed, is_new, with_merged, merged, ids_in, with_types}
use Rattle.units_well_formed.specs.unit_interface.Exports.{is_in, with_kept, kept, new_ids, IsInterfaceOf}
use Rattle.units_well_formed.specs.declaration_checker.type_parts.Objects.{has_class, is_dynamic}
use Rattle.shared_types_agree.specs.programs.Methods.{AreDeclared, HasDeclaredMethods}
use Rattle.shared_types_agree.proofs.programs.First.{Each}
use Rattle.shared_types_agree.proofs.programs.Keeping.{Stays}

abbrev pub AreSo : List TypeDef → Type 0
AreSo types = Each HasDeclaredMethods types

pub so_on : (types more : List TypeDef) → AreSo types → AreSo more → AreSo (types ++ more)
so_on [] more h k = k
so_on (one ∷ types) more h k = (h.0, so_on types more h.1 k)

pub so_with : (types : List TypeDef) (one : TypeDef) → AreSo types → HasDeclaredMethods one → AreSo (types ++ one ∷ [])
so_with types one h k = so_on types (one ∷ []) h (k, tt)

-- the predeclared types are no objects
pub first_so : AreSo type_list
first_so = (tt, (tt, (tt, (tt, (tt, (tt, (tt, (tt, (tt, (tt, (tt, tt)))))))))))

-- what a unit declares itself
pub own_stays : (unit : List ℕ) → Stays unit (λ (table : Table). AreSo table.types)
own_stays unit = record {
  one = λ table one plain methods fits h. so_with table.types one h methods;
  two = λ table one other plain methods last fits behind h. so_with (table.types ++ one ∷ []) other (so_with table.types one h methods) last;
}

-- ---- under other ids

dynamic_same : (ids : List TypeId) (unit : ℕ) (methods : List Method) → is_dynamic (map (renumbered_method ids unit) methods) ≡ is_dynamic methods
dynamic_same ids unit [] = refl
dynamic_same ids unit (one ∷ rest) = ap (λ (b : Bool). (one.is_virtual || has_class one.header.kind) || b) (dynamic_same ids unit rest)

methods_renumbered : (ids : List TypeId) (unit : ℕ) (dynamic : Bool) (methods : List Method) → AreDeclared dynamic methods → AreDeclared dynamic (map (renumbered_method ids unit) methods)
methods_renumbered ids unit dynamic methods h = record {
  once = subst (IsDistinct same_bytes) (sym (map-map (λ (method : Method). method.name) (renumbered_method ids unit) methods)) h.once;
  told = h.told ∙ sym (dynamic_same ids unit methods);
}

renumbered_so : (ids : List TypeId) (unit : ℕ) (one : TypeDef) → HasDeclaredMethods one → HasDeclaredMethods (renumbered ids unit one)
renumbered_so ids unit (type.ObjectOf parent dynamic fields methods) h = methods_renumbered ids unit dynamic methods h
renumbered_so ids unit (type.Ordinal host low high) h = tt
renumbered_so ids unit (type.Str max) h = tt
renumbered_so ids unit (type.SetOf base) h = tt
renumbered_so ids unit (type.ArrayOf index element) h = tt
renumbered_so ids unit (type.RecordOf fields) h = tt
renumbered_so ids unit (type.PointerTo target) h = tt
renumbered_so ids unit (type.Procedural header) h = tt

-- a type of another table, if there is one
abbrev IsSo : Option TypeDef → Type 0
IsSo None = Unit {0}
IsSo (Some one) = HasDeclaredMethods one

so_at : (types : List TypeDef) (number : ℕ) → AreSo types → IsSo (slice_get types number)
so_at [] zero h = tt
so_at [] (suc number) h = tt
so_at (one ∷ types) zero h = h.0
so_at (one ∷ types) (suc number) h = so_at types number h.1

listed_so : (ids : List TypeId) (table : Table) (units : List (List ℕ)) (one : Option TypeDef) (origin : Option Origin) → AreSo table.types → IsSo one → AreSo (with_listed ids table units one origin).types
listed_so ids table units None None h k = h
listed_so ids table units None (Some origin) h k = h
listed_so ids table units (Some one) None h k = h
listed_so ids table units (Some one) (Some origin) h k = so_with table.types _ h (renumbered_so ids _ one k)

-- ---- types of an interface that come into a table

module _ (other : Table) (ids : List TypeId) (others : AreSo other.types) where
  step_so : (table : Table) (number : ℕ) → AreSo table.types → AreSo (with_merged other ids table number).types
  step_so table number h = by (is_new ids table number)
    where
      by : (b : Bool) → AreSo (cond b (with_listed ids table other.units (slice_get other.types number) (slice_get other.origins number)) table).types
      by true = listed_so ids table other.units (slice_get other.types number) (slice_get other.origins number) h (so_at other.types number others)
      by false = h

  merged_so : (table : Table) (number : ℕ) → AreSo table.types → AreSo (merged other ids table number).types
  merged_so table zero h = h
  merged_so table (suc number) h = step_so (merged other ids table number) number (merged_so table number h)

pub types_so : (table other : Table) → AreSo table.types → AreSo other.types → AreSo (with_types table other).types
types_so table other h k = merged_so other (ids_in table other) k table (length other.types) h

-- ---- types of a unit that are kept in its interface

module _ (own : Table) (reached : List ℕ) (ids : List TypeId) (owns : AreSo own.types) where
  kept_so : (number : ℕ) → AreSo (kept own reached ids number).types
  kept_so zero = tt
  kept_so (suc number) = by (is_in reached number) (kept_so number)
    where
      by : (b : Bool) → AreSo (kept own reached ids number).types → AreSo (let t : Table = cond b (with_kept own ids (kept own reached ids number) number) (kept own reached ids number) in t).types
      by true h = listed_so ids (kept own reached ids number) own.units (slice_get own.types number) (slice_get own.origins number) h (so_at own.types number owns)
      by false h = h

pub interface_so : (unit : typed.Unit) (i : Interface) → IsInterfaceOf unit i → AreSo unit.types.types → AreSo i.types.types
interface_so unit i is h =
    let shown = kept_so unit.types is.reached (new_ids is.reached (length unit.types.types)) h (length unit.types.types) in
    subst (λ (x : Interface). AreSo x.types.types) (sym is.is) shown

-- When what an interface tells is what a scope knows of it.
use Rattle.std.specs.Prelude.{◌≡◌, ℕ, true, All, List, Some, map, slice_get}
use Rattle.units_well_formed.specs.type_layout.declared.definitions.Origin.{Origin}
use Rattle.units_well_formed.specs.scopes.Environment.{Environment}
use Rattle.units_well_formed.specs.unit_interface.declared.interfaces.Interface.{Interface}
use Rattle.units_well_formed.specs.unit_interface.Exports.{renumbered_item}
use Rattle.units_well_formed.specs.unit_interface.Merge.{key_of, is_new, merged, ids_in, with_types, with_interface}
use Rattle.units_well_formed.specs.tp_check_decl.routines.Drafts.{Numbered, Drafted}
use Rattle.units_well_formed.specs.units.Below.{items_of}
use Rattle.units_well_formed.specs.declarations_well_formed.exported_constants.Agreed.{AreConstantsIn}

-- It is that of another unit than the one which is read, no type that is new in the scope is of the unit which is read, and its
-- constants are values of the types that the scope has then.
pub record IsFaithful (name : List ℕ) (g : Environment) (i : Interface) : Type 0 where
  pub other : i.name ≡ name → ⊥
  pub foreign : (number : ℕ) (origin : Origin) → slice_get i.types.origins number ≡ Some origin → is_new (ids_in g.types i.types) (merged i.types (ids_in g.types i.types) g.types number) number ≡ true
      → (key_of i.types.units origin).unit ≡ name → ⊥
  pub constants : AreConstantsIn (with_interface g i).types.types (ids_in g.types i.types) i.items

-- It is that of the unit which is read: its types are all in the scope, its items are, by the ids that these types have there, what the
-- block of the unit shows, and the unit's routines are far.
pub record IsOwn (name : List ℕ) (d : Drafted) (i : Interface) : Type 0 where
  pub own : i.name ≡ name
  pub types : with_types d.scope.types i.types ≡ d.scope.types
  pub items : map (renumbered_item (ids_in d.scope.types i.types)) i.items ≡ items_of d.scope
  pub far : All (λ (one : Numbered). one.first.far ≡ true) d.routines

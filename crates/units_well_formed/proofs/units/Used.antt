-- A further used unit only adds types to the table.
use Rattle.std.proofs.Common.{◌≡◌, ℕ, zero, suc, Bool, true, false, cond, List, [], ◌∷◌, ◌++◌, length, Option, Some, None, refl, sym, subst, ap, ◌∙◌, append_assoc, append-nil}
use Rattle.std.specs.Prelude.{slice_get, ◌<◌, ◌^◌}
use Rattle.declarations_well_formed.specs.type_layout.declared.definitions.TypeId.{TypeId}
use Rattle.declarations_well_formed.specs.type_layout.declared.definitions.TypeDef.{TypeDef}
use Rattle.declarations_well_formed.specs.type_layout.declared.definitions.Origin.{Origin}
use Rattle.declarations_well_formed.specs.type_layout.Table.{Table}
use Rattle.declarations_well_formed.specs.typed_tree.declared.units.Global.{Global}
use Rattle.declarations_well_formed.specs.syntax_tree.declared.identifier.Identifier.{Identifier}
use Rattle.declarations_well_formed.specs.scopes.Environment.{Environment}
use Rattle.declarations_well_formed.specs.unit_interface.declared.interfaces.Interface.{Interface}
use Rattle.declarations_well_formed.specs.unit_interface.Merge.{with_listed, is_new, merged, ids_in, with_interface}
use Rattle.declarations_well_formed.specs.unit_interface.Resolve.{is_overlay, interface_named, with_found, with_overlay, with_use, with_uses}
use Rattle.declarations_well_formed.specs.tp_check_decl.routines.Drafts.{Numbered, Drafted}
use Rattle.declarations_well_formed.specs.tp_check_decl.Interfaces.{all_used}
use Rattle.declarations_well_formed.specs.tables.Laws.{IsFit}
use Rattle.declarations_well_formed.proofs.tables.Fits.{fit_front}
use Rattle.units_well_formed.specs.parts.Below.{HasRoom}

-- types at the end
abbrev pub HasMore : List TypeDef → List TypeDef → Type 0
HasMore types more = (back : List TypeDef) × (more ≡ types ++ back)

none_more : (types more : List TypeDef) → more ≡ types → HasMore types more
none_more types more e = ([], e ∙ sym (append-nil types))

pub more_on : (xs ys zs : List TypeDef) → HasMore xs ys → HasMore ys zs → HasMore xs zs
more_on xs ys zs h k = (h.0 ++ k.0, k.1 ∙ ap (λ (l : List TypeDef). l ++ k.0) h.1 ∙ append_assoc xs h.0 k.0)

module _ (other : Table) (ids : List TypeId) (table : Table) where
  listed_more : (now : Table) (one : Option TypeDef) (origin : Option Origin) → HasMore now.types (with_listed ids now other.units one origin).types
  listed_more now (Some one) (Some origin) = (_, refl)
  listed_more now (Some one) None = none_more now.types now.types refl
  listed_more now None origin = none_more now.types now.types refl

  merged_by : (b : Bool) (now : Table) (number : ℕ) → HasMore now.types (cond b (with_listed ids now other.units (slice_get other.types number) (slice_get other.origins number)) now).types
  merged_by true now number = listed_more now (slice_get other.types number) (slice_get other.origins number)
  merged_by false now number = none_more now.types now.types refl

  pub merged_more : (number : ℕ) → HasMore table.types (merged other ids table number).types
  merged_more zero = none_more table.types table.types refl
  merged_more (suc number) =
      more_on table.types (merged other ids table number).types (merged other ids table (suc number)).types (merged_more number)
      (merged_by (is_new ids (merged other ids table number) number) (merged other ids table number) number)

pub interface_more : (g : Environment) (interface : Interface) → HasMore g.types.types (with_interface g interface).types.types
interface_more g interface = merged_more interface.types (ids_in g.types interface.types) g.types (length interface.types.types)

found_more : (g : Environment) (found : Option Interface) → HasMore g.types.types (with_found g found).types.types
found_more g None = none_more g.types.types g.types.types refl
found_more g (Some interface) = interface_more g interface

pub use_more : (have : List Interface) (g : Environment) (name : List ℕ) → HasMore g.types.types (with_use have g name).types.types
use_more have g name = by (is_overlay name)
  where
    by : (b : Bool) → HasMore g.types.types (cond b (with_overlay g) (with_found g (interface_named have name))).types.types
    by true = none_more g.types.types g.types.types refl
    by false = found_more g (interface_named have name)

pub uses_more : (have : List Interface) (g : Environment) (names : List (List ℕ)) → HasMore g.types.types (with_uses have g names).types.types
uses_more have g [] = none_more g.types.types g.types.types refl
uses_more have g (name ∷ names) =
    more_on g.types.types (with_use have g name).types.types (with_uses have (with_use have g name) names).types.types (use_more have g name) (uses_more have (with_use have g name) names)

pub all_used_grow : (have : List Interface) (g : Environment) (all : List Identifier) (h : Environment) → (all_used have g all).holds h → HasMore g.types.types h.types.types
all_used_grow have g [] h k = none_more g.types.types h.types.types (ap (λ (x : Environment). x.types.types) k)
all_used_grow have g (one ∷ rest) h k =
    let first : HasMore g.types.types k.part.types.types = subst (λ (x : Environment). HasMore g.types.types x.types.types) (sym k.holds.made) (use_more have g one.name) in
    more_on g.types.types k.part.types.types h.types.types first (all_used_grow have k.part rest h k.made)

-- with fewer types there is room as well
pub room_types : (d e : Drafted) (back : List TypeDef) → e.scope.types.types ≡ d.scope.types.types ++ back → e.globals ≡ d.globals → e.routines ≡ d.routines → HasRoom e → HasRoom d
room_types d e back types globals routines h = record {
  routines = subst (λ (rs : List Numbered). length rs < 2 ^ 32) routines h.routines;
  globals = subst (λ (gs : List Global). length gs < 2 ^ 32) globals h.globals;
  types = fit_front d.scope.types.types back (subst (λ (ts : List TypeDef). IsFit ts) types h.types);
}

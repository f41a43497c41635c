-- The constants that a unit shows are values of its types.
use Rattle.std.proofs.Common.{◌≡◌, ◌∙◌, ℕ, ◌-◌, List, [], ◌∷◌, ◌++◌, length, Option, Some, option_map, refl, sym, ap, subst, arith}
use Rattle.std.specs.Prelude.{slice_get}
use Rattle.units_well_formed.specs.type_layout.declared.definitions.TypeDef.{TypeDef}
use Rattle.units_well_formed.specs.typed_tree.declared.units.Item.{Item}
use Rattle.units_well_formed.specs.scopes.declared.entries.Entry.{Entry}
use Rattle.units_well_formed.specs.scopes.declared.entries.Entry.TheVariants as entry
use Rattle.units_well_formed.specs.scopes.declared.searches.OpenBlock.{OpenBlock}
use Rattle.units_well_formed.specs.scopes.Symbols.{SymbolList}
use Rattle.units_well_formed.specs.scopes.Environment.{own_symbols}
use Rattle.units_well_formed.specs.tp_check_decl.routines.Drafts.{Drafted}
use Rattle.programs_well_formed.specs.imported_interfaces.Below.{item_of, items_in, items_by, items_of, EachOf, EachIn, IsConstantIn, IsBottom, IsRead, AreOwnConstants}

module _ (types : List TypeDef) where
  entry_shown : (name : List ℕ) (one : Entry) (rest : List Item) → IsConstantIn types one → AreOwnConstants types rest → AreOwnConstants types (item_of name one ++ rest)
  entry_shown name (entry.Const ty v) rest h k = (h, k)
  entry_shown name (entry.Ty ty) rest h k = k
  entry_shown name (entry.Var unit level number ty) rest h k = k
  entry_shown name (entry.Code routine level header far) rest h k = k
  entry_shown name (entry.Std number) rest h k = k

  symbols_shown : (symbols : SymbolList) → EachOf (IsConstantIn types) symbols → AreOwnConstants types (items_in symbols)
  symbols_shown [] h = tt
  symbols_shown (one ∷ rest) h = entry_shown one.0 one.1 (items_in rest) h.0 (symbols_shown rest h.1)

-- the block of the unit alone is open
alone : (blocks : List OpenBlock) → IsBottom blocks 0 → (one : OpenBlock) × (blocks ≡ one ∷ [])
alone blocks h = (h.first, h.is ∙ ap (λ (rest : List OpenBlock). h.first ∷ rest) (none h.rest h.several))
  where
    none : (rest : List OpenBlock) → length rest ≡ 0 → rest ≡ []
    none [] e = refl
    none (one ∷ rest) e = absurd (omega (arith, e))

pub values_shown : (d : Drafted) → IsRead d [] → AreOwnConstants d.scope.types.types (items_of d.scope)
values_shown d r =
    let types : List TypeDef = d.scope.types.types in
    let it = alone d.scope.blocks r.bottom in
    let each : EachIn (λ (around : List ℕ) (one : Entry). IsConstantIn types one) [] (it.0 ∷ []) =
    subst (λ (blocks : List OpenBlock). EachIn (λ (around : List ℕ) (one : Entry). IsConstantIn types one) [] blocks) it.1 r.values.blocks in
    let symbols : own_symbols d.scope ≡ Some it.0.symbols =
    ap (λ (blocks : List OpenBlock). option_map (λ (block : OpenBlock). block.symbols) (slice_get blocks (length blocks - 1))) it.1 in
    subst (λ (o : Option SymbolList). AreOwnConstants types (items_by o)) (sym symbols) (symbols_shown types it.0.symbols each.0)

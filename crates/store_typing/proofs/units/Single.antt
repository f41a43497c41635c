-- A program of one unit agrees with itself.
use Rattle.std.proofs.Common.{◌≡◌, Bool, true, false, List, [], ◌∷◌, Some, None, refl, sym, ap, subst, ◌∙◌}
use Rattle.std.specs.Prelude.{Option, if◌then◌else◌, slice_get}
use Rattle.std.proofs.lemmas.Option.{same_Some}
use Rattle.tp_meaning.specs.type_layout.declared.definitions.TypeId.{TypeId}
use Rattle.tp_meaning.specs.type_layout.declared.definitions.TypeDef.{TypeDef}
use Rattle.tp_meaning.specs.type_layout.declared.definitions.TypeDef.TheVariants as type
use Rattle.tp_meaning.specs.type_layout.Words.{same_bytes}
use Rattle.tp_meaning.specs.type_layout.Table.{Table}
use Rattle.tp_meaning.specs.typed_tree.declared.units.Unit.{Unit as TypedUnit}
use Rattle.tp_meaning.specs.typed_tree.declared.units.Program.{Program}
use Rattle.tp_meaning.specs.Trees.{Key}
use Rattle.tp_meaning.specs.Programs.{Sort, definition, class_key, unit_in}
use Rattle.store_typing.specs.types.Declared.{declared, AreAlike}
use Rattle.store_typing.specs.types.Agreement.{IsUnit, IsKnown, IsLawful, AreConsistent}
use Rattle.store_typing.proofs.types.Agreed.{get_within}
use Rattle.store_typing.proofs.types.Lines.{is_declared}
use Rattle.store_typing.specs.units.Laws.{IsSingle}

alike_itself : (table : Table) (one : TypeDef) → AreAlike table one table one
alike_itself table (type.Ordinal host low high) = (refl, refl, refl)
alike_itself table (type.Str max) = refl
alike_itself table (type.SetOf base) = refl
alike_itself table (type.ArrayOf index element) = (refl, refl)
alike_itself table (type.RecordOf fields) = refl
alike_itself table (type.PointerTo target) = refl
alike_itself table (type.ObjectOf parent dynamic fields methods) = (refl, refl, refl, refl)
alike_itself table (type.Procedural header) = refl

found_single : (test : Bool) (unit other : TypedUnit) → (if test then Some unit else None) ≡ Some other → other ≡ unit
found_single true unit other e = sym (same_Some unit other e)
found_single false unit other e = absurd cc

module _ (program : Program) (unit : TypedUnit) (single : IsSingle program unit) where
  only_unit : (other : TypedUnit) → IsUnit program other → other ≡ unit
  only_unit other is = found_single (same_bytes other.name unit.name) unit other (subst (λ (units : List TypedUnit). unit_in units other.name ≡ Some other) single.units is)

  only_table : (sort : Sort) → IsKnown program sort → sort.table ≡ unit.types
  only_table sort known = known.table ∙ ap (λ (u : TypedUnit). u.types) (only_unit known.unit known.listed)

  -- two types of the table that were declared at one place are one
  one_type : (a b : TypeId) (one : TypeDef) → slice_get unit.types.types a.0 ≡ Some one → declared unit.types a ≡ declared unit.types b → a ≡ b
  one_type a b one e same =
      let law = single.lawful in
      let key = is_declared unit.types law.well_formed a (get_within unit.types.types a.0 one e) in
      single.apart a b key.0 key.1 (sym same ∙ key.1)

  alike_in : (a b : Sort) (one other : TypeDef) → a.table ≡ unit.types → b.table ≡ unit.types → definition a ≡ Some one → definition b ≡ Some other → class_key a ≡ class_key b → AreAlike a.table one b.table other
  alike_in a b one other ta tb ea eb same =
      let ea' : slice_get unit.types.types a.ty.0 ≡ Some one = subst (λ (t : Table). slice_get t.types a.ty.0 ≡ Some one) ta ea in
      let eb' : slice_get unit.types.types b.ty.0 ≡ Some other = subst (λ (t : Table). slice_get t.types b.ty.0 ≡ Some other) tb eb in
      let keys : declared unit.types a.ty ≡ declared unit.types b.ty = sym (ap (λ (t : Table). declared t a.ty) ta) ∙ same ∙ ap (λ (t : Table). declared t b.ty) tb in
      let ids : a.ty ≡ b.ty = one_type a.ty b.ty one ea' keys in
      let equal : one ≡ other = same_Some one other (sym ea' ∙ ap (λ (t : TypeId). slice_get unit.types.types t.0) ids ∙ eb') in
      subst (λ (t : Table). AreAlike t one b.table other) (sym ta)
      (subst (λ (t : Table). AreAlike unit.types one t other) (sym tb) (subst (AreAlike unit.types one unit.types) equal (alike_itself unit.types one)))

  pub single_agrees : AreConsistent program
  single_agrees = record {
    lawful = λ other is. subst (λ (u : TypedUnit). IsLawful u.types) (sym (only_unit other is)) single.lawful;
    alike = λ a b one other ka kb ea eb same. alike_in a b one other (only_table a ka) (only_table b kb) ea eb same;
  }

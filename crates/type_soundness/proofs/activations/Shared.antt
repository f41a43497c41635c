-- Arguments and results of a routine as its unit and as its callers see them.
use Rattle.std.proofs.Common.{◌≡◌, ℕ, suc, ◌<◌, Bool, true, false, List, [], ◌∷◌, length, map, Some, None, refl, sym, ap, subst, ◌∙◌, arith}
use Rattle.std.specs.Prelude.{slice_get, Option}
use Rattle.std.specs.Option.{option_map}
use Rattle.std.proofs.lemmas.Option.{same_Some, option_and_then_some}
use Rattle.program_typing.specs.type_layout.declared.definitions.TypeId.{TypeId}
use Rattle.program_typing.specs.type_layout.declared.definitions.Param.{Param}
use Rattle.program_typing.specs.type_layout.Table.{Table, IsWellFormed}
use Rattle.program_typing.specs.typed_tree.declared.units.Unit.{Unit as TypedUnit}
use Rattle.program_typing.specs.tp_meaning.Trees.{Key, Value}
use Rattle.program_typing.specs.tp_meaning.Programs.{Sort, sort_in, class_by, class_key}
use Rattle.program_typing.specs.store_typing.types.Declared.{declared, declared_param}
use Rattle.program_typing.specs.store_typing.types.Agreement.{IsUnit, IsKnown, AreConsistent}
use Rattle.program_typing.proofs.store_typing_proofs.types.Agreed.{within_get, get_within, lawful, known_at}
use Rattle.program_typing.proofs.store_typing_proofs.types.Lines.{is_declared}
use Rattle.program_typing.specs.store_typing.stores.Worlds.{World}
use Rattle.program_typing.specs.store_typing.stores.Places.{Shared}
use Rattle.program_typing.proofs.store_typing_proofs.stores.Seen.{place_seen, value_shared}
use Rattle.program_typing.specs.store_typing.standard.Operands.{IsResult}
use Rattle.program_typing.specs.calls.Callees.{IsTaken, AreTaken}

declared_within : (table : Table) → IsWellFormed table → (ty : TypeId) (key : Key) → declared table ty ≡ Some key → ty.0 < length table.types
declared_within table law ty key e =
    option_and_then_some (class_by table) (slice_get table.origins ty.0) key e (λ origin found made. omega (arith, get_within table.origins ty.0 origin found, law.origins))

module _ (w : World) (agreed : AreConsistent w.program) where
  -- what was declared where a type of the program was is a type too
  pub known_shared : (unit : TypedUnit) (ty : TypeId) (b : Sort) → IsUnit w.program unit → IsKnown w.program b → class_key (sort_in unit ty) ≡ class_key b → IsKnown w.program (sort_in unit ty)
  known_shared unit ty b listed kb same =
      let there = lawful w.program agreed b kb in
      let here = agreed.lawful unit listed in
      let key = is_declared b.table there.well_formed b.ty (known_at w.program agreed b kb) in
      let found = within_get unit.types.types ty.0 (declared_within unit.types here.well_formed ty key.0 (same ∙ key.1)) in
      record { unit = unit; listed = listed; table = refl; one = found.0; is = found.1 }

  taken_one : (by_ref : Bool) (a b : Sort) (v : Value) → IsKnown w.program a → IsKnown w.program b → class_key a ≡ class_key b → IsTaken w a by_ref v → IsTaken w b by_ref v
  taken_one true a b v ka kb same is = (is.0, is.1, place_seen w agreed is.0 a b (Shared ka kb same) is.2)
  taken_one false a b v ka kb same is = value_shared w agreed a b v ka kb same is

  -- arguments as a caller's header has them are arguments as the routine's own has them
  pub taken_shared : (unit other : TypedUnit) → IsUnit w.program unit → (params own : List Param) → map (declared_param unit.types) params ≡ map (declared_param other.types) own
      → ((param : Param) (number : ℕ) → slice_get own number ≡ Some param → IsKnown w.program (sort_in other param.ty)) → (xs : List Value) → AreTaken w unit params xs → AreTaken w other own xs
  taken_shared unit other listed [] [] same known [] are = tt
  taken_shared unit other listed [] [] same known (x ∷ xs) are = absurd are
  taken_shared unit other listed [] (q ∷ own) same known xs are = absurd cc
  taken_shared unit other listed (p ∷ params) [] same known xs are = absurd cc
  taken_shared unit other listed (p ∷ params) (q ∷ own) same known [] are = absurd are
  taken_shared unit other listed (p ∷ params) (q ∷ own) same known (x ∷ xs) are =
      let first : declared_param unit.types p ≡ declared_param other.types q = cc in
      let rest : map (declared_param unit.types) params ≡ map (declared_param other.types) own = cc in
      let a : Sort = sort_in unit p.ty in
      let b : Sort = sort_in other q.ty in
      let keys : class_key a ≡ class_key b = ap (λ (x : Bool × Option Key). x.1) first in
      let kb = known q 0 refl in
      let one = taken_one p.by_ref a b x (known_shared unit p.ty b listed kb keys) kb keys are.0 in
      (subst (λ (by_ref : Bool). IsTaken w b by_ref x) (ap (λ (x : Bool × Option Key). x.0) first) one, taken_shared unit other listed params own rest (λ param number e. known param (suc number) e) xs are.1)

  -- a result as the routine's own header has it is one as the caller's has it
  pub result_shared : (unit other : TypedUnit) → IsUnit w.program unit → (result own : Option TypeId) → option_map (declared unit.types) result ≡ option_map (declared other.types) own
      → ((ty : TypeId) → own ≡ Some ty → IsKnown w.program (sort_in other ty)) → (v : Value) → IsResult w (option_map (sort_in other) own) v → IsResult w (option_map (sort_in unit) result) v
  result_shared unit other listed None None same known v is = is
  result_shared unit other listed None (Some o) same known v is = absurd cc
  result_shared unit other listed (Some r) None same known v is = absurd cc
  result_shared unit other listed (Some r) (Some o) same known v is =
      let keys : class_key (sort_in unit r) ≡ class_key (sort_in other o) = same_Some (declared unit.types r) (declared other.types o) same in
      let kb = known o refl in
      value_shared w agreed (sort_in other o) (sort_in unit r) v kb (known_shared unit r (sort_in other o) listed kb keys) (sym keys) is

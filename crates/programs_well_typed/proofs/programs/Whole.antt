-- Programs that sources give are well-typed.
use Rattle.std.proofs.Common.{◌≡◌, ◌∙◌, ℕ, zero, suc, Bool, true, false, ◌||◌, List, [], ◌∷◌, Some, refl, ap, subst}
use Rattle.std.specs.Prelude.{All, slice_get}
use Rattle.std.proofs.lemmas.Option.{same_Some, slice_get_within, get_or_from_slice_get}
use Rattle.shared_types_agree.specs.type_layout.declared.definitions.Method.{Method}
use Rattle.shared_types_agree.specs.type_layout.declared.definitions.TypeDef.TheVariants as type
use Rattle.shared_types_agree.specs.declaration_checker.type_parts.Objects.{has_class, is_dynamic}
use Rattle.shared_types_agree.specs.typed_tree.declared.units.Unit as typed
use Rattle.programs_well_typed.proofs.suppositions.Below.{listed}
use Rattle.programs_well_typed.specs.suppositions.Below.{ConsistencyLaw, ListedLaw, ClassesLaw, MethodsLaw}
use Rattle.shared_types_agree.specs.method_numbers.Laws as numbered
use Rattle.shared_types_agree.specs.method_numbers.Laws.{HaveDeclaredMethods}
use Rattle.programs_well_typed.specs.units.Laws.{ProgramLaw}
use Rattle.shared_types_agree.specs.unit_references.Units.{HasSoundParts, AreMarked}
use Rattle.shared_types_agree.specs.unit_references.Laws.{UnitsAreWellTyped}
use Rattle.programs_well_typed.specs.suppositions.Laws.{SupportedLaw}
use Rattle.programs_well_typed.specs.programs.Laws.{WellTypedLaw}

-- ---- types that declare a virtual method

or_left : (a b : Bool) → a ≡ true → (a || b) ≡ true
or_left true b e = refl
or_left false b e = (let f : false ≡ true = e in cc)

or_right : (a b : Bool) → b ≡ true → (a || b) ≡ true
or_right true b e = refl
or_right false b e = e

-- a type with a virtual method is dynamic
virtual_tells : (methods : List Method) (place : ℕ) (method : Method) → slice_get methods place ≡ Some method → method.is_virtual ≡ true → is_dynamic methods ≡ true
virtual_tells [] place method at is = absurd (cc)
virtual_tells (first ∷ rest) zero method at is =
    let same : first.is_virtual ≡ true = ap (λ (one : Method). one.is_virtual) (same_Some first method at) ∙ is in
    or_left (first.is_virtual || has_class first.header.kind) (is_dynamic rest) (or_left first.is_virtual (has_class first.header.kind) same)
virtual_tells (first ∷ rest) (suc place) method at is = or_right (first.is_virtual || has_class first.header.kind) (is_dynamic rest) (virtual_tells rest place method at is)

marked : (unit : typed.Unit) → HaveDeclaredMethods unit.types.types → AreMarked unit.types.types
marked unit have class parent dynamic fields methods place method at stands is =
    (have class.0 (type.ObjectOf parent dynamic fields methods) at).told ∙ virtual_tells methods place method stands is

-- ---- the whole

all_at : {X : Type 0} (P : X → Type 0) (xs : List X) (place : ℕ) (x : X) → All P xs → slice_get xs place ≡ Some x → P x
all_at P xs place x all at = subst P (get_or_from_slice_get xs place x x at) (all place x (slice_get_within xs place x at))

pub all_typed : ConsistencyLaw → ListedLaw → ClassesLaw → MethodsLaw → numbered.MethodsLaw → ProgramLaw → SupportedLaw → UnitsAreWellTyped → WellTypedLaw
all_typed agreed by_name classes methods declared parts supported typed_by held name texts sources gathers program is written room bounded kept =
    let sound = parts sources program is bounded in
    let told = declared held name texts sources gathers program is in
    typed_by program (by_name held name texts sources gathers program is)
    (record {
      agreed = agreed held name texts sources gathers program is kept;
      parts = λ unit there. (let l = listed program.units unit.name unit there in all_at HasSoundParts program.units l.number unit sound l.at);
      marked = λ unit there. (let l = listed program.units unit.name unit there in marked unit (all_at (λ (one : typed.Unit). HaveDeclaredMethods one.types.types) program.units l.number unit told l.at));
      supported = supported held name texts sources gathers program is written room kept sound;
    })
    (classes held name texts sources gathers program is kept)
    (methods held name texts sources gathers program is kept)

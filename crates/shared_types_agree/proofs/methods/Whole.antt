-- The methods of a program that sources give.
use Rattle.std.proofs.Common.{◌≡◌, ◌∙◌, ℕ, zero, suc, Bool, List, [], ◌∷◌, map, Option, Some, refl, sym, ap, subst, arith}
use Rattle.std.specs.Prelude.{slice_get, Ok}
use Rattle.std.specs.Option.{option_map}
use Rattle.std.proofs.lemmas.Option.{same_Some, option_and_then_some, slice_get_within, get_or_from_slice_get}
use Rattle.unit_references.specs.type_layout.declared.definitions.TypeId.{TypeId}
use Rattle.unit_references.specs.type_layout.declared.definitions.Field.{Field}
use Rattle.unit_references.specs.type_layout.declared.definitions.Header.{Header}
use Rattle.unit_references.specs.type_layout.declared.definitions.Method.{Method}
use Rattle.unit_references.specs.type_layout.declared.definitions.TypeDef.{TypeDef}
use Rattle.unit_references.specs.type_layout.declared.definitions.TypeDef.TheVariants as type
use Rattle.unit_references.specs.type_layout.Table.{IsObject}
use Rattle.interfaces_consistent.specs.source_graph.declared.sources.Source.{Source}
use Rattle.unit_references.specs.typed_tree.declared.units.Routine.{Routine}
use Rattle.unit_references.specs.typed_tree.declared.units.Unit as typed
use Rattle.unit_references.specs.typed_tree.declared.units.Program.{Program}
use Rattle.unit_references.specs.object_vmt.Dispatch.{IsLawful as IsLawfulTable, AnswersAlike}
use Rattle.unit_references.specs.tp_meaning.Trees.{Key as Class}
use Rattle.unit_references.specs.tp_meaning.Found.{Found, ◌>>=◌, known}
use Rattle.unit_references.specs.tp_meaning.Programs.{Sort, definition, class_by, class_key, method_key}
use Rattle.unit_references.specs.tp_meaning.Activations.{Callee, callee_of}
use Rattle.unit_references.specs.store_typing.types.Declared.{DeclaredMethod, declared, declared_header, declared_method, AreAlike}
use Rattle.unit_references.specs.store_typing.types.Agreement.{IsUnit, IsKnown, IsLawful, AreConsistent}
use Rattle.unit_references.proofs.store_typing_proofs.types.Agreed.{within_get, get_within}
use Rattle.unit_references.proofs.store_typing_proofs.types.Lines.{is_declared}
use Rattle.unit_references.specs.store_typing.classes.Laws.{HasDeclarers}
use Rattle.unit_references.specs.program_typing.programs.WellTyped.{IsMethod, HasMethods}
use Rattle.unit_references.specs.methods.Laws.{HasLawfulMethods}
use Rattle.units_well_formed.specs.call_rules.method_rules.Slots.{methods_of}
use Rattle.interfaces_consistent.specs.tp_outside.Folder.{Folder}
use Rattle.units_well_formed.specs.tp_lexer.declared.token.Text.{Text}
use Rattle.interfaces_consistent.specs.source_graph.Walk.{Gathers}
use Rattle.shared_types_agree.specs.programs.Below.{outer_scope, IsProgram}
use Rattle.shared_types_agree.specs.programs.Laws.{ConsistencyLaw, DeclarersLaw}
use Rattle.shared_types_agree.proofs.programs.Keys.{class_of, declared_at}
use Rattle.shared_types_agree.proofs.programs.Whole.{listed}
use Rattle.shared_types_agree.proofs.programs.Sources.{source_of}
use Rattle.shared_types_agree.specs.methods.Laws.{IsOwnMethod, HasOwnMethods, OwnMethodsLaw, LawfulLaw, MethodsLaw}
use Rattle.shared_types_agree.proofs.methods.Answers.{answers_alike}
use Rattle.shared_types_agree.proofs.methods.Numbered.{in_class}
use Rattle.shared_types_agree.proofs.methods.Tables.{owner_key}
use Rattle.shared_types_agree.proofs.methods.Sources.{source_methods}

-- ---- lists of methods

-- a place of a list that is mapped to what another is mapped to
pub alike_at : {X D : Type 0} (f g : X → D) (xs ys : List X) (place : ℕ) (x : X) → map f xs ≡ map g ys → slice_get xs place ≡ Some x → (y : X) × (slice_get ys place ≡ Some y) × (g y ≡ f x)
alike_at f g [] ys place x e at = absurd cc
alike_at f g (z ∷ xs) [] place x e at = absurd cc
alike_at f g (z ∷ xs) (y ∷ ys) zero x e at =
    let first : f z ≡ g y = cc in
    (y, refl, sym first ∙ ap f (same_Some z x at))
alike_at f g (z ∷ xs) (y ∷ ys) (suc place) x e at =
    let rest : map f xs ≡ map g ys = cc in
    alike_at f g xs ys place x rest at

-- the routine of a unit with a number
pub routine_found : (program : Program) (unit : typed.Unit) (number : ℕ) (routine : Routine) → IsUnit program unit → slice_get unit.routines number ≡ Some routine
    → callee_of program (record { unit = unit.name; number = number }) ≡ Ok (record { unit = unit; number = number; routine = routine })
routine_found program unit number routine there is =
    let end : Option Routine → Found Callee = λ o. known o >>= λ routine. Ok (record { unit = unit; number = number; routine = routine }) in
    ap (λ (o : Option typed.Unit). known o >>= λ (u : typed.Unit). known (slice_get u.routines number) >>= λ (routine : Routine). Ok (record { unit = u; number = number; routine = routine })) there ∙ ap end is

-- ---- methods by the units that declare them

-- a unit has the methods of its own types, and tells of each type which unit declares it
pub record HasOwn (unit : typed.Unit) : Type 0 where
  pub routines : HasOwnMethods unit
  pub named : (ty : TypeId) (class : Class) (place : ℕ) (method : Method) → declared unit.types ty ≡ Some class → slice_get (in_class unit.types ty) place ≡ Some method
      → slice_get unit.types.units method.routine.unit ≡ Some class.unit

module _ (program : Program) (agreed : AreConsistent program) (declarers : HasDeclarers program) (own : (unit : typed.Unit) → IsUnit program unit → HasOwn unit) where
  -- a method of any table, by the method of the unit that declares the type
  method_is : (class : Sort) (unit : typed.Unit) (ty : TypeId) (method other : Method) (key : Class) → IsUnit program unit → class_key class ≡ declared unit.types ty → declared_method unit.types other ≡ declared_method class.table method
      → method_key class.table method ≡ Some key → slice_get unit.types.units other.routine.unit ≡ Some unit.name → IsOwnMethod unit ty other → IsMethod program key class (declared_header class.table method.header)
  method_is class unit ty method other key there same alike keyed here is =
      let number : ℕ = other.routine.number in
      let callee : Callee = record { unit = unit; number = number; routine = is.routine } in
      let mine : method_key unit.types other ≡ Some (record { unit = unit.name; number = number }) = ap (option_map (λ (name : List ℕ). record { unit = name; number = number })) here in
      let keys : record { unit = unit.name; number = number } ≡ key = same_Some (record { unit = unit.name; number = number }) key (sym mine ∙ ap (λ (d : DeclaredMethod). d.routine) alike ∙ keyed) in
      let headers : declared_header class.table method.header ≡ declared_header unit.types is.routine.header =
      sym (ap (λ (d : DeclaredMethod). d.header) alike) ∙ ap (λ (h : Header). declared_header unit.types h) (sym is.header) in
      record {
        callee = callee;
        found = subst (λ (k : Class). callee_of program k ≡ Ok callee) keys (routine_found program unit number is.routine there is.is);
        listed = there;
        same = headers;
        owner = ty;
        owned = is.owned;
        line = record { steps = 0; ty = class.ty; reached = refl; same = same };
      }

  by_alike : (class : Sort) (unit : typed.Unit) (ty : TypeId) (name : Class) (parent : Option TypeId) (dynamic : Bool) (fields : List Field) (methods : List Method) (place : ℕ) (method : Method) (key : Class)
      → IsUnit program unit → name.unit ≡ unit.name → declared unit.types ty ≡ Some name → class_key class ≡ Some name → slice_get methods place ≡ Some method → method_key class.table method ≡ Some key
      → (one : TypeDef) → slice_get unit.types.types ty.0 ≡ Some one → AreAlike class.table (type.ObjectOf parent dynamic fields methods) unit.types one → IsMethod program key class (declared_header class.table method.header)
  by_alike class unit ty name parent dynamic fields methods place method key there named is here at keyed (type.ObjectOf parent' dynamic' fields' methods') defined alike =
      let other = alike_at (declared_method class.table) (declared_method unit.types) methods methods' place method alike.3 at in
      let so = own unit there in
      let stands : slice_get (in_class unit.types ty) place ≡ Some other.0 = ap (λ (o : Option TypeDef). slice_get (methods_of o) place) defined ∙ other.1 in
      let mine : slice_get unit.types.units other.0.routine.unit ≡ Some unit.name = so.named ty name place other.0 is stands ∙ ap (λ (n : List ℕ). Some n) named in
      method_is class unit ty method other.0 key there (here ∙ sym is) other.2 keyed mine (so.routines.methods ty place other.0 stands mine)
  by_alike class unit ty name parent dynamic fields methods place method key there named is here at keyed one defined alike = absurd alike

  -- what a unit declares is in its table
  pub declared_type : (unit : typed.Unit) → IsUnit program unit → (ty : TypeId) (name : Class) → declared unit.types ty ≡ Some name → (one : TypeDef) × (slice_get unit.types.types ty.0 ≡ Some one)
  declared_type unit there ty name is =
      let law = (agreed.lawful unit there).well_formed in
      option_and_then_some (class_by unit.types) (slice_get unit.types.origins ty.0) name is
      (λ origin at made. within_get unit.types.types ty.0 (omega (arith, slice_get_within unit.types.origins ty.0 origin at, law.origins)))

  pub routines : (class : Sort) (parent : Option TypeId) (dynamic : Bool) (fields : List Field) (methods : List Method) (place : ℕ) (method : Method) (key : Class) → IsKnown program class
      → definition class ≡ Some (type.ObjectOf parent dynamic fields methods) → slice_get methods place ≡ Some method → method_key class.table method ≡ Some key
      → IsMethod program key class (declared_header class.table method.header)
  routines class parent dynamic fields methods place method key kc e at keyed =
      let law : IsLawful class.table = subst IsLawful (sym kc.table) (agreed.lawful kc.unit kc.listed) in
      let one : TypeDef = type.ObjectOf parent dynamic fields methods in
      let name = is_declared class.table law.well_formed class.ty (get_within class.table.types class.ty.0 one e) in
      let d = declarers.declarers class name.0 kc (subst IsObject (sym e) tt) name.1 in
      let unit = d.unit in
      let sort : Sort = record { table = unit.types; ty = d.ty } in
      let there = declared_type unit d.listed d.ty name.0 d.is in
      let known_there : IsKnown program sort = record { unit = unit; listed = d.listed; table = refl; one = there.0; is = there.1 } in
      let alike = agreed.alike class sort one there.0 kc known_there e there.1 (name.1 ∙ sym d.is) in
      by_alike class unit d.ty name.0 parent dynamic fields methods place method key d.listed d.named d.is name.1 at keyed there.0 there.1 alike

-- ---- the units of a program

module _ (held : Folder) (name : List ℕ) (texts : List Text) (sources : List Source) (gathers : Gathers held name texts sources) (program : Program) (is : IsProgram sources program) where
  pub unit_methods : (unit : typed.Unit) → IsUnit program unit → HasOwn unit
  unit_methods unit there =
      let t = source_of held name texts sources gathers program is unit there in
      let s : Source = t.source in
      record {
        routines = source_methods s.name s.says (outer_scope is.units.have s) is.units.have s.tree unit t.typed t.first t.used;
        named = λ ty class place method declared at.
            let k = owner_key unit.types t.told.told.keyed t.told.owned ty place method at in
            let same : class_of k.key ≡ class = same_Some (class_of k.key) class (sym (declared_at unit.types t.told.told.keyed ty.0 k.key k.at) ∙ declared) in
            k.named ∙ ap (λ (c : Class). Some c.unit) same;
      }

  unit_answers : (unit : typed.Unit) → IsUnit program unit → AnswersAlike unit.types.types
  unit_answers unit there =
      let l = listed program.units unit.name unit there in
      let lawful = is.lawful l.number unit (slice_get_within program.units l.number unit l.at) in
      answers_alike unit.types.types (subst (λ (u : typed.Unit). IsLawfulTable u.types.types) (get_or_from_slice_get program.units l.number unit unit l.at) lawful)

pub all_own_methods : OwnMethodsLaw
all_own_methods held name texts sources gathers program is unit there = (unit_methods held name texts sources gathers program is unit there).routines

module _ (agreed : ConsistencyLaw) (declarers : DeclarersLaw) where
  pub all_lawful : LawfulLaw
  all_lawful held name texts sources gathers program is kept = record {
    answers = unit_answers held name texts sources gathers program is;
    routines = routines program (agreed held name texts sources gathers program is kept) (declarers held name texts sources gathers program is) (unit_methods held name texts sources gathers program is);
  }

  module _ (law : (program : Program) → AreConsistent program → HasLawfulMethods program → HasMethods program) where
    pub all_have_methods : MethodsLaw
    all_have_methods held name texts sources gathers program is kept =
        law program (agreed held name texts sources gathers program is kept) (all_lawful held name texts sources gathers program is kept)

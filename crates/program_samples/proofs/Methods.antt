-- The methods of the object type answer by class.
use Rattle.std.proofs.Common.{◌≡◌, ℕ, zero, suc, Bool, true, false, cond, List, [], ◌∷◌, Option, Some, None, refl, sym, ap, subst, ◌∙◌}
use Rattle.std.specs.Prelude.{slice_get, codes}
use Rattle.std.proofs.lemmas.Option.{same_Some}
use Rattle.unit_references.specs.type_layout.declared.definitions.TypeId.{TypeId}
use Rattle.unit_references.specs.type_layout.declared.definitions.Field.{Field}
use Rattle.unit_references.specs.type_layout.declared.definitions.Method.{Method}
use Rattle.unit_references.specs.type_layout.declared.definitions.TypeDef.{TypeDef}
use Rattle.unit_references.specs.type_layout.declared.definitions.TypeDef.TheVariants as type
use Rattle.unit_references.specs.type_layout.Words.{same_bytes}
use Rattle.unit_references.specs.type_layout.Table.{Table, IsObject}
use Rattle.unit_references.specs.object_vmt.Members.{members_of, members_in, later_of}
use Rattle.unit_references.specs.object_vmt.Rules.{same_header}
use Rattle.unit_references.specs.object_vmt.Dispatch.{AreAnsweredAlike, AnswersAlike}
use Rattle.unit_references.specs.typed_tree.declared.statements.Stmt.{Stmt}
use Rattle.unit_references.specs.tp_meaning.Trees.{Key}
use Rattle.unit_references.specs.tp_meaning.Programs.{Sort, definition, class_key, class_sort, method_key}
use Rattle.unit_references.specs.store_typing.types.Declared.{declared_header}
use Rattle.unit_references.specs.store_typing.types.Agreement.{IsKnown}
use Rattle.unit_references.specs.store_typing.standard.Laws.{HasClasses}
use Rattle.unit_references.specs.program_typing.programs.WellTyped.{IsMethod}
use Rattle.unit_references.specs.Units.{AreMarked}
use Rattle.unit_references.specs.methods.Laws.{HasLawfulMethods}
use Rattle.program_samples.specs.Sample.{id, types, table, class, init_header, tell_header, init_method, tell_method, method, unit_a, sample}
use Rattle.program_samples.proofs.Agreed.{each_type, each_unit, the_table}

-- ---- the table

pub marked : AreMarked types
marked owner parent dynamic fields methods place one is stands is_virtual =
    each_type (λ k made. made ≡ type.ObjectOf parent dynamic fields methods → dynamic ≡ true)
    (λ made at e. absurd cc)
    (λ made at e. absurd cc)
    (λ made at e. absurd cc)
    (λ made at e. absurd cc)
    (λ made at e. cc)
    owner.0 _ is refl

abbrev own_methods : List Method
own_methods = init_method ∷ tell_method ∷ []

own_answers : AreAnsweredAlike own_methods
own_answers name first last is_first is_last = by (same_bytes name (codes "TELL")) (cond (same_bytes name (codes "INIT")) (Some init_method) None) is_first is_last
  where
    by : (told : Bool) (other : Option Method) → cond told (Some tell_method) None ≡ Some first → later_of (cond told (Some tell_method) None) other ≡ Some last
        → (last.is_virtual ≡ true) × (same_header first.header last.header ≡ true)
    by true other f l =
        subst (λ (m : Method). (m.is_virtual ≡ true) × (same_header first.header m.header ≡ true)) (same_Some tell_method last l)
        (refl, subst (λ (m : Method). same_header m.header tell_header ≡ true) (same_Some tell_method first f) refl)
    by false other f l = absurd cc

no_answers : AreAnsweredAlike []
no_answers name first last is_first is_last = absurd cc

answers : AnswersAlike types
answers owner = by owner.0
  where
    by : (k : ℕ) → AreAnsweredAlike (members_in (members_of types) (id k)).methods
    by zero = no_answers
    by (suc zero) = no_answers
    by (suc (suc zero)) = no_answers
    by (suc (suc (suc zero))) = no_answers
    by (suc (suc (suc (suc zero)))) = own_answers
    by (suc (suc (suc (suc (suc k))))) = no_answers

-- the object type is the only one
the_object : (ty : TypeId) (one : TypeDef) → slice_get types ty.0 ≡ Some one → IsObject (Some one) → ty ≡ class
the_object ty one is object = each_type (λ k made. IsObject (Some made) → id k ≡ class)
    (λ made at o. absurd (subst (λ (t : TypeDef). IsObject (Some t)) (sym (same_Some _ made at)) o))
    (λ made at o. absurd (subst (λ (t : TypeDef). IsObject (Some t)) (sym (same_Some _ made at)) o))
    (λ made at o. absurd (subst (λ (t : TypeDef). IsObject (Some t)) (sym (same_Some _ made at)) o))
    (λ made at o. absurd (subst (λ (t : TypeDef). IsObject (Some t)) (sym (same_Some _ made at)) o))
    (λ made at o. refl)
    ty.0 one is object

-- ---- the program

abbrev class_in : Sort
class_in = record { table = table; ty = class }

module _ (init tell main : Stmt) where
  the_class : (sort : Sort) (one : TypeDef) → IsKnown (sample init tell main) sort → definition sort ≡ Some one → IsObject (Some one) → sort ≡ class_in
  the_class sort one known is object =
      let tables = the_table init tell main sort known in
      let types_is : slice_get types sort.ty.0 ≡ Some one = subst (λ (t : Table). slice_get t.types sort.ty.0 ≡ Some one) tables is in
      let ids = the_object sort.ty one types_is object in
      ap (λ (t : Table). record { table = t; ty = sort.ty }) tables ∙ ap (λ (ty : TypeId). record { table = table; ty = ty }) ids

  class_known : IsKnown (sample init tell main) class_in
  class_known = record { unit = unit_a init tell; listed = refl; table = refl; one = _; is = refl }

  abbrev Finds : Sort → Key → Type 0
  Finds sort key = (declared : Sort) × (class_sort (sample init tell main) key ≡ Some declared) × IsKnown (sample init tell main) declared × (class_key declared ≡ Some key)

  found : (key : Key) → class_key class_in ≡ Some key → Finds class_in key
  found key is = subst (Finds class_in) (same_Some _ key is) (class_in, refl, class_known, refl)

  pub classes : HasClasses (sample init tell main)
  classes = record {
    classes = λ sort key known object is.
        (let same = the_class sort known.one known known.is (subst IsObject known.is object) in
        found key (subst (λ (s : Sort). class_key s ≡ Some key) same is));
  }

  own_method : (place : ℕ) (one : Method) (key : Key) → slice_get own_methods place ≡ Some one → method_key table one ≡ Some key
      → IsMethod (sample init tell main) key class_in (declared_header table one.header)
  own_method zero one key is leads =
      let found : (k : Key) → method_key table init_method ≡ Some k → IsMethod (sample init tell main) k class_in (declared_header table init_header) = λ k e.
      subst (λ (k : Key). IsMethod (sample init tell main) k class_in (declared_header table init_header)) (same_Some _ k e) (record {
        callee = record { unit = unit_a init tell; number = 0; routine = method (codes "INIT") init_header init };
        found = refl;
        listed = refl;
        same = refl;
        owner = class;
        owned = refl;
        line = record { steps = 0; ty = class; reached = refl; same = refl };
      }) in
      subst (λ (m : Method). method_key table m ≡ Some key → IsMethod (sample init tell main) key class_in (declared_header table m.header)) (same_Some _ one is) (found key) leads
  own_method (suc zero) one key is leads =
      let found : (k : Key) → method_key table tell_method ≡ Some k → IsMethod (sample init tell main) k class_in (declared_header table tell_header) = λ k e.
      subst (λ (k : Key). IsMethod (sample init tell main) k class_in (declared_header table tell_header)) (same_Some _ k e) (record {
        callee = record { unit = unit_a init tell; number = 1; routine = method (codes "TELL") tell_header tell };
        found = refl;
        listed = refl;
        same = refl;
        owner = class;
        owned = refl;
        line = record { steps = 0; ty = class; reached = refl; same = refl };
      }) in
      subst (λ (m : Method). method_key table m ≡ Some key → IsMethod (sample init tell main) key class_in (declared_header table m.header)) (same_Some _ one is) (found key) leads
  own_method (suc (suc place)) one key is leads = absurd cc

  -- a method that a type declares, in the table of the object type
  abbrev Declares : Sort → Type 0
  Declares sort = (parent : Option TypeId) (dynamic : Bool) (fields : List Field) (methods : List Method) (place : ℕ) (one : Method) (key : Key) → definition sort ≡ Some (type.ObjectOf parent dynamic fields methods)
      → slice_get methods place ≡ Some one → method_key sort.table one ≡ Some key → IsMethod (sample init tell main) key sort (declared_header sort.table one.header)

  declares : Declares class_in
  declares parent dynamic fields methods place one key is stands leads =
      let same : own_methods ≡ methods = cc in
      own_method place one key (subst (λ (all : List Method). slice_get all place ≡ Some one) (sym same) stands) leads

  pub lawful_methods : HasLawfulMethods (sample init tell main)
  lawful_methods = record {
    answers = each_unit init tell main (λ unit. AnswersAlike unit.types.types) answers answers;
    routines = λ sort parent dynamic fields methods place one key known is stands leads.
        (subst Declares (sym (the_class sort _ known is tt)) declares) parent dynamic fields methods place one key is stands leads;
  }

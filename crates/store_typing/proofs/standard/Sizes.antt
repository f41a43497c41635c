-- SizeOf: the size of a type, and of an instance that of its class.
use Rattle.std.proofs.Common.{◌≡◌, ℕ, zero, suc, ◌+◌, ◌≤◌, List, [], ◌∷◌, get_or, Some, None, refl, sym, ap, subst, ◌∙◌, arith}
use Rattle.std.specs.Prelude.{pos, All, Option, Ok, slice_get}
use Rattle.std.specs.Option.{option_map}
use Rattle.std.proofs.lemmas.Option.{same_Some}
use Rattle.std.proofs.lemmas.Int.{ints}
use Rattle.std.proofs.lemmas.List.Elements.{All-head, All-tail}
use Rattle.tp_meaning.specs.type_layout.declared.definitions.TypeId.{TypeId}
use Rattle.tp_meaning.specs.type_layout.declared.definitions.Host.TheVariants as host
use Rattle.tp_meaning.specs.type_layout.declared.definitions.Field.{Field}
use Rattle.tp_meaning.specs.type_layout.declared.definitions.TypeDef.{TypeDef}
use Rattle.tp_meaning.specs.type_layout.declared.definitions.TypeDef.TheVariants as type
use Rattle.tp_meaning.specs.type_layout.declared.layout.Layout.{Layout}
use Rattle.tp_meaning.specs.type_layout.Layouts.{plain, layouts_of}
use Rattle.tp_meaning.specs.type_layout.Table.{IsObject}
use Rattle.tp_meaning.specs.typed_tree.Standard as routine
use Rattle.tp_meaning.specs.typed_tree.type_fits.Fits.{stored_as, ancestor}
use Rattle.tp_meaning.specs.typed_tree.type_fits.Standard.{Variable}
use Rattle.tp_meaning.specs.Trees.{Key, Ordinal}
use Rattle.tp_meaning.specs.Found.{Found, ◌>>=◌, known}
use Rattle.tp_meaning.specs.Shapes.{Part, field_parts, parts_by, parts_at, class_place}
use Rattle.tp_meaning.specs.Store.{Store}
use Rattle.tp_meaning.specs.Programs.{Sort, definition, beside, size_in, class_key}
use Rattle.tp_meaning.specs.Activations.{Reached, class_at}
use Rattle.tp_meaning.specs.Standard.{Operand, SizeOf, place_arg, instance_size, size_freed, size_by, size_of_variable}
use Rattle.store_typing.specs.types.Agreement.{IsKnown, AreConsistent}
use Rattle.store_typing.proofs.types.Whole.{parts_of_record, parts_of_none, no_parts}
use Rattle.store_typing.proofs.types.Agreed.{lawful, defined}
use Rattle.store_typing.proofs.types.Lines.{begins}
use Rattle.store_typing.specs.stores.Worlds.{World}
use Rattle.store_typing.specs.stores.Places.{IsSeenAs, Shared, Letter, Whole, IsAt, IsValueOf, IsClassAt, IsClassFor}
use Rattle.store_typing.specs.stores.Stores.{IsTypedStore, Finds}
use Rattle.store_typing.proofs.stores.Paths.{finds_bind}
use Rattle.store_typing.proofs.stores.Seen.{reached_known, object_seen, parent_object}
use Rattle.store_typing.proofs.stores.Instances.{class_found}
use Rattle.store_typing.proofs.operators.Ranges.{is_held}
use Rattle.store_typing.proofs.operators.OperandKinds.{ordinal_value}
use Rattle.store_typing.specs.standard.Operands.{IsOperand}
use Rattle.store_typing.specs.standard.Laws.{HasClasses, IsSoundCall}
use Rattle.store_typing.proofs.standard.Arguments.{variable_named}

abbrev IsSize : ℕ → Type 0
IsSize n = n ≤ 65520

all_or : (P : Layout → Type 0) (xs : List Layout) (k : ℕ) (d : Layout) → All P xs → P d → P (get_or xs k d)
all_or P [] k d each h = h
all_or P (x ∷ xs) zero d each h = All-head P x xs each
all_or P (x ∷ xs) (suc k) d each h = all_or P xs k d (All-tail P x xs each) h

-- ---- types whose instances have a class

no_class_field : (fields : List Field) → class_place (field_parts fields) ≡ None
no_class_field [] = refl
no_class_field (field ∷ fields) = ap (option_map (λ place. 1 + place)) (no_class_field fields)

module _ (types : List TypeDef) (ty : TypeId) (parts_none : (one : TypeDef) → slice_get types ty.0 ≡ Some one → ((front : List TypeDef) (given : List (List Part)) → parts_by front given one ≡ []) → parts_at types ty ≡ [])
    (parts_fields : (fields : List Field) → slice_get types ty.0 ≡ Some (type.RecordOf fields) → parts_at types ty ≡ field_parts fields) (n : ℕ) (has : class_place (parts_at types ty) ≡ Some n) where
  without : {A : Type 0} → class_place (parts_at types ty) ≡ None → A
  without e = absurd cc

  class_object : (o : Option TypeDef) → slice_get types ty.0 ≡ o → IsObject o
  class_object (Some (type.ObjectOf p d fields methods)) e = tt
  class_object (Some (type.RecordOf fields)) e = without (ap class_place (parts_fields fields e) ∙ no_class_field fields)
  class_object (Some (type.Ordinal h low high)) e = without (ap class_place (parts_none (type.Ordinal h low high) e (λ f g. refl)))
  class_object (Some (type.Str max)) e = without (ap class_place (parts_none (type.Str max) e (λ f g. refl)))
  class_object (Some (type.SetOf base)) e = without (ap class_place (parts_none (type.SetOf base) e (λ f g. refl)))
  class_object (Some (type.ArrayOf i x)) e = without (ap class_place (parts_none (type.ArrayOf i x) e (λ f g. refl)))
  class_object (Some (type.PointerTo target)) e = without (ap class_place (parts_none (type.PointerTo target) e (λ f g. refl)))
  class_object (Some (type.Procedural header)) e = without (ap class_place (parts_none (type.Procedural header) e (λ f g. refl)))
  class_object None e = without (ap class_place (no_parts types ty e))

module _ (w : World) (agreed : AreConsistent w.program) (closed : HasClasses w.program) where
  known_size : (sort : Sort) → IsKnown w.program sort → IsSize (size_in sort)
  known_size sort ks =
      let law = lawful w.program agreed sort ks in
      all_or (λ (layout : Layout). layout.size ≤ 65520) (layouts_of sort.table.types) sort.ty.0 (plain 0) law.well_formed.fits (omega arith)

  pub object_of_class : (sort : Sort) → IsKnown w.program sort → (n : ℕ) → class_place (parts_at sort.table.types sort.ty) ≡ Some n → IsObject (definition sort)
  object_of_class sort ks n has =
      let all = defined w.program agreed sort ks in
      class_object sort.table.types sort.ty (parts_of_none sort.table.types all sort.ty) (parts_of_record sort.table.types all sort.ty) n has (definition sort) refl

  -- what a type of an object line descends from is an object type
  line_object : (own : Sort) (ko : IsKnown w.program own) → IsObject (definition own) → (steps : ℕ) (ty : TypeId) → ancestor own.table.types steps own.ty ≡ Some ty → IsObject (slice_get own.table.types ty.0)
  line_object own ko object zero ty e = subst (λ (t : TypeId). IsObject (slice_get own.table.types t.0)) (same_Some own.ty ty e) object
  line_object own ko object (suc steps) ty e = parent_object w.program agreed own.table.types (defined w.program agreed own ko) steps own.ty ty e

  class_sized : (sort : Sort) → IsKnown w.program sort → IsObject (definition sort) → (class : Key) → IsClassAt w.program (class_key sort) class → Finds IsSize (instance_size w.program (Some class))
  class_sized sort ks object class at =
      let mid : Sort = beside at.own at.of.ty in
      let km = reached_known w.program agreed at.own (class_key sort) at.known at.of in
      let mid_object = object_seen w.program agreed sort mid ks km (sym at.of.same) object in
      let start = begins at.own.table.types (defined w.program agreed at.own at.known) at.of.steps at.own.ty at.of.ty at.of.reached in
      let top : Sort = beside at.own at.has.ty in
      let kt = reached_known w.program agreed at.own (Some class) at.known at.has in
      let found = closed.classes top class kt (line_object at.own at.known (start.object mid_object) at.has.steps at.has.ty at.has.reached) at.has.same in
      subst (λ (s : Option Sort). Finds IsSize (known (option_map size_in s))) (sym found.1) (known_size found.0 found.2)

  sized : (sort : Sort) → IsKnown w.program sort → IsObject (definition sort) → (class : Option Key) → IsClassFor w.program (class_key sort) class → Finds IsSize (instance_size w.program class)
  sized sort ks object None is = tt
  sized sort ks object (Some class) is = class_sized sort ks object class is

  module _ (store : Store) (typed : IsTypedStore w store) where
    -- the size of the class that an instance has
    pub freed_size : (at : Reached) (seen : Sort) (n : ℕ) → IsKnown w.program at.sort → IsAt w at seen → class_place (parts_at at.sort.table.types at.sort.ty) ≡ Some n → Finds IsSize (size_freed w.program at store)
    freed_size at seen n ks is e =
        let object = object_of_class at.sort ks n e in
        finds_bind (IsClassFor w.program (class_key at.sort)) IsSize (class_at at store) (instance_size w.program) (class_found w agreed store typed at n ks object is.place e) (sized at.sort ks object)

    size_found : (at : Reached) (seen : Sort) → IsAt w at seen → Finds IsSize (size_by w.program at (class_place (parts_at at.sort.table.types at.sort.ty)) store)
    size_found at seen is = by is.same where
      of : (ks : IsKnown w.program at.sort) (p : Option ℕ) → class_place (parts_at at.sort.table.types at.sort.ty) ≡ p → Finds IsSize (size_by w.program at p store)
      of ks None e = known_size at.sort ks
      of ks (Some n) e = freed_size at seen n ks is e

      by : IsSeenAs w.program at.sort seen → Finds IsSize (size_by w.program at (class_place (parts_at at.sort.table.types at.sort.ty)) store)
      by (Shared ko ks same) = of ko (class_place (parts_at at.sort.table.types at.sort.ty)) refl
      by (Letter e ks stored) =
          let one : Reached → Found ℕ = λ at. size_by w.program at (class_place (parts_at at.sort.table.types at.sort.ty)) store in
          subst (λ (s : Sort). Finds IsSize (one (record { spot = at.spot; sort = s }))) (sym e) (omega arith)
      by (Whole e ks stored) =
          let one : Reached → Found ℕ = λ at. size_by w.program at (class_place (parts_at at.sort.table.types at.sort.ty)) store in
          subst (λ (s : Sort). Finds IsSize (one (record { spot = at.spot; sort = s }))) (sym e) (omega arith)

    pub size_call : (x : Operand) (result : Sort) → IsOperand w Variable x → stored_as (definition result) ≡ Some host.Word → IsSoundCall w store routine.size_of (Some result) (x ∷ [])
    size_call x result is gives =
        let p = variable_named w x is in
        record {
          one = SizeOf;
          is = refl;
          sound = subst (λ (y : Operand). Finds (IsValueOf w result) (known (Some y) >>= place_arg >>= λ at. size_of_variable w.program at store)) (sym p.is)
              (finds_bind IsSize (IsValueOf w result) (size_by w.program p.at (class_place (parts_at p.at.sort.table.types p.at.sort.ty)) store) (λ bytes. Ok (Ordinal (pos bytes))) (size_found p.at p.seen p.place)
              (λ bytes small. ordinal_value w result host.Word (pos bytes) gives (is_held host.Word (pos bytes) (omega (arith, ints)) (omega (arith, ints, small)))));
        }

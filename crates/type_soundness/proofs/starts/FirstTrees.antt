-- The tree of a first value has the form of its type.
use Rattle.std.proofs.Common.{◌≡◌, ℕ, zero, suc, ◌+◌, ◌<◌, Bool, true, false, List, [], ◌∷◌, ◌++◌, length, map, get_or, Some, None, refl, sym, subst, arith, length-append}
use Rattle.std.specs.Prelude.{All, Option, ◌&&◌}
use Rattle.std.specs.List.{list_all}
use Rattle.std.proofs.lemmas.List.Elements.{All-head, All-tail}
use Rattle.program_typing.specs.type_layout.declared.definitions.TypeId.{TypeId}
use Rattle.program_typing.specs.type_layout.declared.definitions.Host.TheVariants as host
use Rattle.program_typing.specs.type_layout.declared.definitions.Field.{Field}
use Rattle.program_typing.specs.type_layout.declared.definitions.TypeDef.{TypeDef}
use Rattle.program_typing.specs.type_layout.declared.definitions.TypeDef.TheVariants as type
use Rattle.program_typing.specs.type_layout.Layouts.{given_by, bounds_at}
use Rattle.program_typing.specs.type_layout.Storage.{storage_of, count_between}
use Rattle.program_typing.specs.type_layout.Table.{Table, IsDefinedOver, AllDefined}
use Rattle.program_typing.specs.tp_meaning.Shapes.{field_parts, Reader, read_ordinal, read_chain, read_nothing, reader_in, reader_by, first_tree}
use Rattle.program_typing.specs.store_typing.types.Declared.{declared, declared_header}
use Rattle.program_typing.specs.store_typing.types.Forms.{Link, Routine, Form, End, letter, line, part_forms, form_in, form_by, form_beside}
use Rattle.program_typing.specs.store_typing.stores.Worlds.{World, HasForm}
use Rattle.program_typing.proofs.store_typing_proofs.stores.NewTrees.{new_has}
use Rattle.program_typing.specs.programs.WellTyped.{plain_in, plain_by, IsFirstOf}
use Rattle.type_soundness.proofs.starts.Readers.{Reads, ordinal_reads, set_reads, nothing_reads, many_reads, before_reads}

both_left : (a b : Bool) → (a && b) ≡ true → a ≡ true
both_left true b e = refl
both_left false b e = absurd cc

both_right : (a b : Bool) → (a && b) ≡ true → b ≡ true
both_right true b e = e
both_right false b e = absurd cc

-- one thing is given for each type
count_given : {A : Type 0} (rule : List TypeDef → List A → TypeDef → A) (front : List TypeDef) (given : List A) (types : List TypeDef) → length (given_by rule front given types) ≡ length given + length types
count_given rule front given [] = omega arith
count_given rule front given (one ∷ types) =
    omega (arith, count_given rule (front ++ one ∷ []) (given ++ rule front given one ∷ []) types, length-append given (rule front given one ∷ []))

module _ (w : World) where
  -- types in which no object is, their forms and what reads them, one by one
  abbrev Each : List Bool → List Form → List Reader → Type 0
  Each [] [] [] = Unit {0}
  Each (plain ∷ plains) (form ∷ forms) (read ∷ readers) = (plain ≡ true → Reads w form read) × Each plains forms readers
  Each _ _ _ = ⊥

  each_get : (plains : List Bool) (forms : List Form) (readers : List Reader) (k : ℕ) → Each plains forms readers → k < length plains → get_or plains k true ≡ true → Reads w (get_or forms k End) (get_or readers k read_nothing)
  each_get [] [] [] k each h e = absurd (omega (arith, h))
  each_get [] [] (read ∷ readers) k each h e = absurd each
  each_get [] (form ∷ forms) readers k each h e = absurd each
  each_get (plain ∷ plains) [] readers k each h e = absurd each
  each_get (plain ∷ plains) (form ∷ forms) [] k each h e = absurd each
  each_get (plain ∷ plains) (form ∷ forms) (read ∷ readers) zero each h e = each.0 e
  each_get (plain ∷ plains) (form ∷ forms) (read ∷ readers) (suc k) each h e = each_get plains forms readers k each.1 (omega (arith, h)) e

  each_push : (plains : List Bool) (forms : List Form) (readers : List Reader) (plain : Bool) (form : Form) (read : Reader) → Each plains forms readers → (plain ≡ true → Reads w form read)
      → Each (plains ++ plain ∷ []) (forms ++ form ∷ []) (readers ++ read ∷ [])
  each_push [] [] [] plain form read each is = (is, tt)
  each_push [] [] (r ∷ readers) plain form read each is = absurd each
  each_push [] (f ∷ forms) readers plain form read each is = absurd each
  each_push (p ∷ plains) [] readers plain form read each is = absurd each
  each_push (p ∷ plains) (f ∷ forms) [] plain form read each is = absurd each
  each_push (p ∷ plains) (f ∷ forms) (r ∷ readers) plain form read each is = (each.0, each_push plains forms readers plain form read each.1 is)

  fields_read : (plains : List Bool) (forms : List Form) (readers : List Reader) → Each plains forms readers → (fields : List Field) → All (λ (field : Field). field.ty.0 < length plains) fields
      → list_all (λ (field : Field). plain_in plains field.ty) fields ≡ true
      → Reads w (line (part_forms (form_in forms) None (field_parts fields))) (read_chain (map (λ (field : Field). reader_in readers field.ty) fields))
  fields_read plains forms readers each [] below e = λ bytes are. (tt, are)
  fields_read plains forms readers each (field ∷ fields) below e =
      let plain : Bool = list_all (λ (field : Field). plain_in plains field.ty) fields in
      let first = both_left (plain_in plains field.ty) plain e in
      let rest = both_right (plain_in plains field.ty) plain e in
      let here = All-head (λ (field : Field). field.ty.0 < length plains) field fields below in
      let there = All-tail (λ (field : Field). field.ty.0 < length plains) field fields below in
      before_reads w (form_in forms field.ty) (line (part_forms (form_in forms) None (field_parts fields))) (reader_in readers field.ty) (read_chain (map (λ (field : Field). reader_in readers field.ty) fields))
      (each_get plains forms readers field.ty.0 each here first) (fields_read plains forms readers each fields there rest)

  made_reads : (table : Table) (types : List TypeDef) (plains : List Bool) (forms : List Form) (readers : List Reader) (one : TypeDef) → Each plains forms readers → length plains ≡ length types → IsDefinedOver types one
      → plain_by types plains one ≡ true → Reads w (form_by table types forms one) (reader_by types readers one)
  made_reads table types plains forms readers (type.Ordinal h low high) each count defined e = ordinal_reads w (storage_of h low high)
  made_reads table types plains forms readers (type.Str max) each count defined e = many_reads w (max + 1) letter (read_ordinal host.Char) (ordinal_reads w host.Char)
  made_reads table types plains forms readers (type.SetOf base) each count defined e = set_reads w (bounds_at types base).0 (bounds_at types base).1
  made_reads table types plains forms readers (type.ArrayOf index element) each count defined e =
      many_reads w (count_between (bounds_at types index).0 (bounds_at types index).1) (form_in forms element) (reader_in readers element) (each_get plains forms readers element.0 each (omega (arith, defined.1, count)) e)
  made_reads table types plains forms readers (type.RecordOf fields) each count defined e =
      fields_read plains forms readers each fields (subst (λ n. All (λ (field : Field). field.ty.0 < n) fields) (sym count) defined) e
  made_reads table types plains forms readers (type.PointerTo target) each count defined e = nothing_reads w (Link (declared table target))
  made_reads table types plains forms readers (type.ObjectOf parent dynamic fields methods) each count defined e = absurd cc
  made_reads table types plains forms readers (type.Procedural header) each count defined e = nothing_reads w (Routine (declared_header table header))

  each_given : (table : Table) (front : List TypeDef) (plains : List Bool) (forms : List Form) (readers : List Reader) (types : List TypeDef) → Each plains forms readers → length plains ≡ length front → AllDefined front types
      → Each (given_by plain_by front plains types) (given_by (form_by table) front forms types) (given_by reader_by front readers types)
  each_given table front plains forms readers [] each count defined = each
  each_given table front plains forms readers (one ∷ types) each count defined =
      each_given table (front ++ one ∷ []) (plains ++ plain_by front plains one ∷ []) (forms ++ form_by table front forms one ∷ []) (readers ++ reader_by front readers one ∷ []) types
      (each_push plains forms readers (plain_by front plains one) (form_by table front forms one) (reader_by front readers one) each (made_reads table front plains forms readers one each count defined.0))
      (omega (arith, count, length-append plains (plain_by front plains one ∷ []), length-append front (one ∷ []))) defined.1

  -- the first tree of a global has the form of its type
  pub first_has : (table : Table) → AllDefined [] table.types → (ty : TypeId) → ty.0 < length table.types → (first : Option (List ℕ)) → IsFirstOf table.types ty first → HasForm w (form_beside table ty) (first_tree table.types ty first)
  first_has table defined ty within None is = new_has w table ty
  first_has table defined ty within (Some bytes) is =
      let plains : List Bool = given_by plain_by [] [] table.types in
      let count : length plains ≡ 0 + length table.types = count_given plain_by [] [] table.types in
      let read = each_get plains (given_by (form_by table) [] [] table.types) (given_by reader_by [] [] table.types) ty.0 (each_given table [] [] [] [] table.types tt refl defined) (omega (arith, within, count)) is.0 in
      let one = read bytes is.1 in
      one.0

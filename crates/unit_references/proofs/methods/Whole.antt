-- What answers a slot, for all types of a line.
use Rattle.std.proofs.Common.{◌≡◌, ℕ, Some, refl, sym, ap, subst, ◌∙◌}
use Rattle.std.proofs.Common.{inl, inr}
use Rattle.std.specs.Prelude.{◌⊎◌}
use Rattle.std.proofs.lemmas.Option.{option_and_then_some}
use Rattle.type_soundness.specs.type_layout.declared.definitions.TypeId.{TypeId}
use Rattle.type_soundness.specs.type_layout.declared.definitions.Method.{Method}
use Rattle.type_soundness.specs.type_layout.Table.{Table}
use Rattle.type_soundness.specs.typed_tree.declared.units.Program.{Program}
use Rattle.type_soundness.specs.object_vmt.Dispatch.{AnswersAlike}
use Rattle.type_soundness.specs.typed_tree.type_fits.Fits.{Descends}
use Rattle.type_soundness.specs.tp_meaning.Trees.{Key}
use Rattle.type_soundness.specs.tp_meaning.Programs.{Sort, class_key, beside, method_key}
use Rattle.type_soundness.specs.store_typing.types.Declared.{DeclaredHeader, DeclaredMethod, declared_header}
use Rattle.type_soundness.specs.store_typing.types.Agreement.{IsKnown, AreConsistent, IsOfLine}
use Rattle.type_soundness.proofs.store_typing_proofs.types.Agreed.{defined}
use Rattle.type_soundness.proofs.store_typing_proofs.stores.Seen.{reached_known, line_along}
use Rattle.type_soundness.specs.program_typing.programs.WellTyped.{slot_method, IsMethod, HasMethods}
use Rattle.unit_references.specs.methods.Laws.{HasLawfulMethods}
use Rattle.unit_references.proofs.methods.Tables.{in_line, answered, lower_answer, declared_by}
use Rattle.unit_references.proofs.methods.Alike.{headers_same, slot_agree}

module _ (program : Program) (agreed : AreConsistent program) (lawful : HasLawfulMethods program) where
  answers : (sort : Sort) → IsKnown program sort → AnswersAlike sort.table.types
  answers sort known = subst (λ (table : Table). AnswersAlike table.types) (sym known.table) (lawful.answers known.unit known.listed)

  -- two types of a line in one table
  line_headers : (own : Sort) → IsKnown program own → (a b : TypeId) → Descends own.table.types a b ⊎ Descends own.table.types b a → (slot : ℕ) (one other : Method) → slot_method (beside own a) slot ≡ Some one
      → slot_method (beside own b) slot ≡ Some other → declared_header own.table one.header ≡ declared_header own.table other.header
  line_headers own ko a b (inl by) slot one other e e' =
      let alike = lower_answer own.table.types (defined program agreed own ko) (answers own ko) a b by slot one other e e' in
      sym (headers_same program agreed own.table alike.first.header one.header alike.same) ∙ headers_same program agreed own.table alike.first.header other.header alike.same_other
  line_headers own ko a b (inr by) slot one other e e' =
      let alike = lower_answer own.table.types (defined program agreed own ko) (answers own ko) b a by slot other one e' e in
      sym (headers_same program agreed own.table alike.first.header one.header alike.same_other) ∙ headers_same program agreed own.table alike.first.header other.header alike.same

  -- the routine of the method that a class has in a slot
  class_method : (class : Sort) → IsKnown program class → (slot : ℕ) (method : Method) (key : Key) → slot_method class slot ≡ Some method → method_key class.table method ≡ Some key
      → IsMethod program key class (declared_header class.table method.header)
  class_method class kc slot method key e is =
      let name = answered class.table.types (defined program agreed class kc) class.ty slot method e in
      let d = declared_by class.table.types (defined program agreed class kc) class.ty name.0 method name.1.nearest_is in
      let top : Sort = beside class d.ty in
      let up : IsOfLine class (class_key top) = record { steps = d.steps; ty = d.ty; reached = d.reached; same = refl } in
      let kt = reached_known program agreed class (class_key top) kc up in
      let found = lawful.routines top d.parent d.dynamic d.fields d.methods d.stands.0 method key kt d.is d.stands.1 is in
      let line = line_along program agreed found.line.steps class top kc kt up found.line.ty found.line.reached in
      record {
        callee = found.callee;
        found = found.found;
        listed = found.listed;
        same = found.same;
        owner = found.owner;
        owned = found.owned;
        line = subst (IsOfLine class) found.line.same line;
      }

  slot_is : (own seen class : Sort) (slot : ℕ) (method of : Method) (key : Key) → IsKnown program own → IsKnown program seen → IsKnown program class → IsOfLine own (class_key seen) → IsOfLine own (class_key class)
      → slot_method seen slot ≡ Some method → slot_method class slot ≡ Some of → method_key class.table of ≡ Some key → IsMethod program key class (declared_header seen.table method.header)
  slot_is own seen class slot method of key ko ks kc above has e e' is =
      let a : Sort = beside own above.ty in
      let c : Sort = beside own has.ty in
      let ka = reached_known program agreed own (class_key seen) ko above in
      let kd = reached_known program agreed own (class_key class) ko has in
      let one = slot_agree program agreed seen a ks ka (sym above.same) slot method e in
      let other = slot_agree program agreed class c kc kd (sym has.same) slot of e' in
      let line = line_headers own ko above.ty has.ty (in_line own.table.types (defined program agreed own ko) above.steps has.steps own.ty above.ty has.ty above.reached has.reached) slot one.0 other.0 one.1 other.1 in
      let header : DeclaredMethod → DeclaredHeader = λ d. d.header in
      let found = class_method class kc slot of key e' is in
      record {
        callee = found.callee;
        found = found.found;
        listed = found.listed;
        same = sym (ap header one.2) ∙ line ∙ ap header other.2 ∙ found.same;
        owner = found.owner;
        owned = found.owned;
        line = found.line;
      }

  -- what a class has in a slot is what each type of its line says
  pub has_methods : HasMethods program
  has_methods = record {
    methods = λ own seen class slot method key ko ks kc above has e is.
        option_and_then_some (method_key class.table) (slot_method class slot) key is (λ of found keyed. slot_is own seen class slot method of key ko ks kc above has e found keyed);
  }

-- The example is a program of one unit that supposes nothing of others.
use Rattle.std.proofs.Common.{◌≡◌, ℕ, zero, suc, Bool, List, [], Some, refl, sym, ap, subst, ◌∙◌}
use Rattle.std.specs.Prelude.{Option, slice_get}
use Rattle.std.proofs.lemmas.Option.{same_Some}
use Rattle.type_soundness.specs.type_layout.declared.definitions.TypeId.{TypeId}
use Rattle.type_soundness.specs.type_layout.declared.definitions.Field.{Field}
use Rattle.type_soundness.specs.type_layout.declared.definitions.Method.{Method}
use Rattle.type_soundness.specs.type_layout.declared.definitions.TypeDef.TheVariants as type
use Rattle.type_soundness.specs.object_vmt.Members.{members_of, members_in}
use Rattle.type_soundness.specs.object_vmt.Dispatch.{AreAnsweredAlike}
use Rattle.type_soundness.specs.well_formed.Scopes.{Others}
use Rattle.type_soundness.specs.tp_meaning.Trees.{Key}
use Rattle.type_soundness.specs.tp_meaning.ShownCalls.{Boxed}
use Rattle.type_soundness.specs.store_typing.types.Declared.{declared}
use Rattle.type_soundness.specs.program_typing.programs.WellTyped.{IsSoundUnit, IsWellTyped}
use Rattle.type_soundness.specs.program_typing.programs.Example.{table, counting, counting_program}
use Rattle.type_soundness.proofs.program_typing_proofs.programs.Counting.{typed, supposes_nothing, can_be_met}
use Rattle.unit_references.specs.programs.Laws.{IsAlone, DeclaresItsTypes, CanBeAlone}

none_is : {A : Type 0} (one : A) (place : ℕ) → (let l : List A = [] in slice_get l place) ≡ Some one → ⊥
none_is one zero e = cc
none_is one (suc place) e = cc

first_origin : (n : ℕ) (key : Key) → declared table (record { 0 = n }) ≡ Some key → n ≡ 0
first_origin zero key e = refl
first_origin (suc n) key e = absurd cc

apart : (a b : TypeId) (key : Key) → declared table a ≡ Some key → declared table b ≡ Some key → a ≡ b
apart a b key ea eb = ap (λ (n : ℕ). record { 0 = n }) (first_origin a.0 key ea ∙ sym (first_origin b.0 key eb))

module _ (b : Boxed) where
  origin : (n : ℕ) (key : Key) → declared table (record { 0 = n }) ≡ Some key → key.unit ≡ (counting b).name
  origin zero key e = ap (λ (k : Key). k.unit) (sym (same_Some (record { unit = (counting b).name; number = 0 }) key e))
  origin (suc n) key e = absurd cc

  no_answer : (n : ℕ) → AreAnsweredAlike (members_in (members_of table.types) (record { 0 = n })).methods
  no_answer zero name first last e e' = absurd cc
  no_answer (suc n) name first last e e' = absurd cc

  no_object : (n : ℕ) (parent : Option TypeId) (dynamic : Bool) (fields : List Field) (methods : List Method) → slice_get table.types n ≡ Some (type.ObjectOf parent dynamic fields methods) → ⊥
  no_object zero parent dynamic fields methods e = cc
  no_object (suc n) parent dynamic fields methods e = cc

  declares : DeclaresItsTypes (counting b)
  declares = record {
    origins = λ ty key e. origin ty.0 key e;
    answers = λ class. no_answer class.0;
    methods = λ class parent dynamic fields methods place method e at. absurd (no_object class.0 parent dynamic fields methods e);
  }

  alone : IsAlone (counting_program b) (counting b)
  alone =
      let met : IsWellTyped (counting_program b) = can_be_met b in
      let unit : IsSoundUnit (counting_program b) (counting b) = met.units (counting b) refl in
      record {
        single = record { units = refl; lawful = met.agreed.lawful (counting b) refl; apart = apart };
        parts = record { own = unit.own; globals = unit.globals; routines = unit.routines };
        marked = λ class parent dynamic fields methods place method e at is. absurd (no_object class.0 parent dynamic fields methods e);
        supported = record {
          formed = typed b;
          held = record {
            units = λ one is. absurd (none_is one is.0 (subst (λ (o : Others). slice_get o.units is.0 ≡ Some one) (supposes_nothing b) is.1));
            globals = λ one is low. absurd (none_is one is.0 (subst (λ (o : Others). slice_get o.globals is.0 ≡ Some one) (supposes_nothing b) is.1));
            routines = λ one is low. absurd (none_is one is.0 (subst (λ (o : Others). slice_get o.routines is.0 ≡ Some one) (supposes_nothing b) is.1));
          };
        };
      }

pub can_be_alone : CanBeAlone
can_be_alone b = (alone b, declares b)

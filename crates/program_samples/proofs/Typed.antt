-- The program is well-typed, wherever its trees lie.
use Rattle.std.proofs.Common.{◌≡◌, ℕ, zero, suc, [], ◌∷◌, Some, refl, subst, arith, inl}
use Rattle.std.specs.Prelude.{slice_get, codes}
use Rattle.std.proofs.lemmas.Option.{same_Some}
use Rattle.std.proofs.lemmas.List.Elements.{All-nil, All-cons}
use Rattle.unit_references.specs.typed_tree.declared.statements.Stmt.{Stmt}
use Rattle.unit_references.specs.typed_tree.declared.units.Routine.{Routine}
use Rattle.unit_references.specs.typed_tree.Statements.{view_stmt}
use Rattle.unit_references.specs.well_formed.Scopes.{OtherRoutine}
use Rattle.unit_references.specs.store_typing.types.Agreement.{IsUnit}
use Rattle.unit_references.specs.program_typing.programs.WellTyped.{IsSoundRoutine, HasFirst, IsWellTyped}
use Rattle.unit_references.specs.Held.{IsRoutineHeld, AreHeld}
use Rattle.unit_references.specs.Units.{HasSoundParts, AreMarked, IsSupported, HasSoundUnits}
use Rattle.unit_references.proofs.Whole.{well_typed}
use Rattle.unit_references.proofs.methods.Whole.{has_methods}
use Rattle.program_samples.specs.Sample.{text, class, init_header, init_body, tell_body, main_body, method, variable, unit_a, unit_p, sample}
use Rattle.program_samples.proofs.Agreed.{one_element, each_unit, agreed}
use Rattle.program_samples.proofs.Formed.{no_others, seen_init, of_a, formed_a, formed_p}
use Rattle.program_samples.proofs.Methods.{marked, classes, lawful_methods}

module _ (init tell main : Stmt) (init_is : view_stmt init ≡ init_body) (tell_is : view_stmt tell ≡ tell_body) (main_is : view_stmt main ≡ main_body) where
  -- ---- what is asked of each unit beside that it is well-formed

  sound_methods : (number : ℕ) (routine : Routine) → slice_get (unit_a init tell).routines number ≡ Some routine → IsSoundRoutine (unit_a init tell) routine
  sound_methods zero routine is = subst (IsSoundRoutine (unit_a init tell)) (same_Some _ routine is) (record { few = omega arith; method = λ e. refl; class = λ e. refl })
  sound_methods (suc zero) routine is = subst (IsSoundRoutine (unit_a init tell)) (same_Some _ routine is) (record { few = omega arith; method = λ e. refl; class = λ e. refl })
  sound_methods (suc (suc number)) routine is = absurd cc

  sound_main : (number : ℕ) (routine : Routine) → slice_get (unit_p main).routines number ≡ Some routine → IsSoundRoutine (unit_p main) routine
  sound_main zero routine is = subst (IsSoundRoutine (unit_p main)) (same_Some _ routine is) (record { few = omega arith; method = λ e. refl; class = λ e. tt })
  sound_main (suc number) routine is = absurd cc

  parts_a : HasSoundParts (unit_a init tell)
  parts_a = record { own = refl; globals = All-nil _; routines = sound_methods }

  parts_p : HasSoundParts (unit_p main)
  parts_p = record { own = refl; globals = All-cons (HasFirst (unit_p main)) (variable class) (variable text ∷ []) tt (one_element (HasFirst (unit_p main)) (variable text) tt); routines = sound_main }

  -- ---- what is supposed of others

  abbrev init_seen : OtherRoutine
  init_seen = record { routine = record { unit = 1; number = 0 }; seen = seen_init }

  init_held : IsRoutineHeld (sample init tell main) (unit_p main) init_seen
  init_held = record {
    key = _;
    is = refl;
    kept = inl (record {
      own = refl;
      callee = record { unit = unit_a init tell; number = 0; routine = method (codes "INIT") init_header init };
      found = refl;
      listed = refl;
      outermost = refl;
      header = refl;
      owner = refl;
    });
  }

  the_one : (one : OtherRoutine) (place : ℕ) → slice_get of_a.routines place ≡ Some one → init_seen ≡ one
  the_one one zero is = same_Some init_seen one is
  the_one one (suc place) is = absurd cc

  held_a : AreHeld (sample init tell main) (unit_a init tell) no_others
  held_a = record { units = λ one h. absurd (cc h.1); globals = λ one h far. absurd (cc h.1); routines = λ one h far. absurd (cc h.1) }

  held_p : AreHeld (sample init tell main) (unit_p main) of_a
  held_p = record {
    units = λ one h. absurd (cc h.1);
    globals = λ one h far. absurd (cc h.1);
    routines = λ one h far. subst (IsRoutineHeld (sample init tell main) (unit_p main)) (the_one one h.0 h.1) init_held;
  }

  supported_a : IsSupported (sample init tell main) (unit_a init tell)
  supported_a = record { formed = formed_a init tell init_is tell_is; held = held_a }

  supported_p : IsSupported (sample init tell main) (unit_p main)
  supported_p = record { formed = formed_p main main_is; held = held_p }

  -- ---- the whole

  sound_units : HasSoundUnits (sample init tell main)
  sound_units = record {
    agreed = agreed init tell main;
    parts = each_unit init tell main HasSoundParts parts_a parts_p;
    marked = each_unit init tell main (λ unit. AreMarked unit.types.types) marked marked;
    supported = each_unit init tell main (IsSupported (sample init tell main)) supported_a supported_p;
  }

  pub is_well_typed : IsWellTyped (sample init tell main)
  is_well_typed =
      well_typed (sample init tell main) (All-cons (IsUnit (sample init tell main)) (unit_a init tell) (unit_p main ∷ []) refl (one_element (IsUnit (sample init tell main)) (unit_p main) refl)) sound_units (classes init tell main)
      (has_methods (sample init tell main) (agreed init tell main) (lawful_methods init tell main))

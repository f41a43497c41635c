-- The units are well-formed.
use Rattle.std.proofs.Common.{◌≡◌, ℕ, ◌<◌, zero, suc, true, [], ◌∷◌, Some, None, refl, sym, subst, arith, inl, inr}
use Rattle.std.specs.Prelude.{slice_get}
use Rattle.std.proofs.lemmas.Option.{same_Some}
use Rattle.std.proofs.lemmas.List.Elements.{All-nil, All-cons}
use Rattle.unit_references.specs.type_layout.declared.definitions.Param.{Param}
use Rattle.unit_references.specs.typed_tree.declared.statements.Stmt.{Stmt}
use Rattle.unit_references.specs.typed_tree.declared.units.Routine.{Routine}
use Rattle.unit_references.specs.typed_tree.Statements.{view_stmt}
use Rattle.unit_references.specs.typed_tree.type_fits.Fits.{IsStructured, definition}
use Rattle.unit_references.specs.well_formed.Scopes.{Prototype, Others, HasType}
use Rattle.unit_references.specs.well_formed.WellFormed.{IsStatement, IsWritten, IsOfUnit, IsRoutine, IsItem, IsWellFormed, scope_of, scope_in}
use Rattle.program_samples.specs.Sample.{types, byte, text, class, init_header, tell_method, init_body, tell_body, main_body, main_part, variable, unit_a, unit_p}
use Rattle.program_samples.proofs.Agreed.{one_element}

-- what is supposed of other units: nothing by A, and the constructor by P
abbrev pub no_others : Others
no_others = record { units = []; globals = []; routines = [] }

abbrev pub seen_init : Prototype
seen_init = record { header = init_header; owner = Some class; outer = None; far = true }

abbrev pub of_a : Others
of_a = record { units = []; globals = []; routines = (record { routine = record { unit = 1; number = 0 }; seen = seen_init }) ∷ [] }

abbrev IsByte : ℕ → Type 0
IsByte byte = byte < 256

simple_byte : IsStructured (definition types byte) → ⊥
simple_byte (inl h) = h
simple_byte (inr (inl h)) = h
simple_byte (inr (inr h)) = h

simple_text : IsStructured (definition types text) → ⊥
simple_text (inl h) = h
simple_text (inr (inl h)) = h
simple_text (inr (inr h)) = h

module _ (init tell : Stmt) (init_is : view_stmt init ≡ init_body) (tell_is : view_stmt tell ≡ tell_body) where
  init_typed : IsStatement (scope_in no_others (unit_a init tell) 0) init_body
  init_typed = record {
    ty = byte;
    place = (tt, (class, (tt, inl refl), refl));
    simple = simple_byte;
    typed = refl;
    takes = record { ordinal = tt; same = refl };
  }

  tell_typed : IsStatement (scope_in no_others (unit_a init tell) 1) tell_body
  tell_typed = (
    (
      (
        (tt, (tt, (class, (tt, inl refl), refl))),
        (byte, refl, (refl, record { ordinal = tt; same = refl }, (refl, record { ordinal = tt; same = refl }, refl, record { ordinal = tt; same = refl }, tt))),
        (refl, tt, tt),
        tt,
      ),
      refl,
    ),
    record {
      ty = text;
      place = (tt, inl refl);
      simple = simple_text;
      typed = (omega arith, All-cons IsByte 102 (101 ∷ 119 ∷ []) (omega arith) (All-cons IsByte 101 (119 ∷ []) (omega arith) (one_element IsByte 119 (omega arith))));
      takes = tt;
    },
    tt,
  )

  pub methods_typed : (number : ℕ) (routine : Routine) → slice_get (unit_a init tell).routines number ≡ Some routine → IsRoutine no_others (unit_a init tell) number routine
  methods_typed zero routine is = subst (IsRoutine no_others (unit_a init tell) 0) (same_Some _ routine is) (record {
    params = All-nil _;
    result = tt;
    function = λ e. absurd cc;
    owner = tt;
    outer = tt;
    locals = All-nil _;
    body = subst (IsStatement (scope_in no_others (unit_a init tell) 0)) (sym init_is) init_typed;
  })
  methods_typed (suc zero) routine is = subst (IsRoutine no_others (unit_a init tell) 1) (same_Some _ routine is) (record {
    params = one_element (λ (param : Param). HasType (scope_of (unit_a init tell)) param.ty) _ tt;
    result = tt;
    function = λ e. absurd cc;
    owner = tt;
    outer = tt;
    locals = All-nil _;
    body = subst (IsStatement (scope_in no_others (unit_a init tell) 1)) (sym tell_is) tell_typed;
  })
  methods_typed (suc (suc number)) routine is = absurd cc

  abbrev pub formed_a : IsWellFormed (unit_a init tell)
  formed_a = record {
    others = no_others;
    named = refl;
    globals = All-nil _;
    routines = methods_typed;
    items = one_element (IsItem (unit_a init tell)) _ tt;
    initial = tt;
  }

module _ (main : Stmt) (main_is : view_stmt main ≡ main_body) where
  main_typed : IsStatement (scope_in of_a (unit_p main) 0) main_body
  main_typed = (
    ((tt, (seen_init, (0, refl), (refl, λ e. absurd cc, (class, (tt, refl), (0, refl)), tt))), tt),
    (
      ((tt, (class, tt, (tt, refl), (tell_method, refl, (refl, (refl, (text, (tt, refl), (0, refl)), tt))))), tt),
      (one_element (IsWritten (scope_in of_a (unit_p main) 0)) _ (record { value = (tt, (tt, refl)); sort = inl (inr (inr tt)); width = tt }), tt),
    ),
  )

  pub main_part_typed : (number : ℕ) (routine : Routine) → slice_get (unit_p main).routines number ≡ Some routine → IsRoutine of_a (unit_p main) number routine
  main_part_typed zero routine is = subst (IsRoutine of_a (unit_p main) 0) (same_Some _ routine is) (record {
    params = All-nil _;
    result = tt;
    function = λ e. absurd cc;
    owner = tt;
    outer = tt;
    locals = All-nil _;
    body = subst (IsStatement (scope_in of_a (unit_p main) 0)) (sym main_is) main_typed;
  })
  main_part_typed (suc number) routine is = absurd cc

  abbrev pub formed_p : IsWellFormed (unit_p main)
  formed_p = record {
    others = of_a;
    named = refl;
    globals = All-cons (IsOfUnit (unit_p main)) (variable class) (variable text ∷ []) (record { has = tt; first = tt }) (one_element (IsOfUnit (unit_p main)) _ (record { has = tt; first = tt }));
    routines = main_part_typed;
    items = All-nil _;
    initial = (main_part main, refl, record { kind = refl; bare = refl; far = refl; free = refl; outermost = refl });
  }

-- The example is typed, and what it says is not typed is not.
use Rattle.std.proofs.Common.{◌≡◌, inl, inr, ℕ, Option, Some, None, refl, ap, arith}
use Rattle.type_layout.specs.declared.definitions.TypeId.{TypeId}
use Rattle.typed_tree.specs.Expressions.{Load, Var}
use Rattle.typed_tree.specs.type_fits.Fits.{definition, IsStructured}
use Rattle.well_formed.specs.Scopes.{IsVariableAt}
use Rattle.well_formed.specs.Typed.{IsTyped}
use Rattle.well_formed.specs.Example.{counting, counter, integer, boolean, IsExample}

simple : IsStructured (definition counting.types integer) → ⊥
simple (inl h) = h
simple (inr (inl h)) = h
simple (inr (inr h)) = h

abbrev number_in : Option TypeId → ℕ
number_in None = 0
number_in (Some ty) = ty.0

not_one : ◌≡◌ {A = ℕ} 0 1 → ⊥
not_one e = omega (arith, e)

no_boolean : IsVariableAt counting 1 0 0 boolean → ⊥
no_boolean (inl e) = not_one (ap (λ (x : Option TypeId). number_in x) e)
no_boolean (inr held) = let high = held.high in omega arith

loads : IsTyped counting (Load integer (Var counter))
loads = (tt, (tt, inl refl))

pub is_example : IsExample
is_example = record {
  typed = (
    ((loads, refl, (refl, inl (record { ordinal = tt; same = refl })), tt), refl),
    record {
      ty = integer;
      place = (tt, inl refl);
      simple = simple;
      typed = (loads, refl, inl ((tt, refl), (tt, refl)), tt);
      takes = record { ordinal = tt; same = refl };
    },
  );
  other_type = λ h. no_boolean h.1.1;
  too_great = λ h. let bad : ⊥ = cc in bad;
  early = λ h. h.3;
}

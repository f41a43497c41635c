use Rattle.std.proofs.Common.{◌≡◌, ◌↔◌, ◌<◌, ◌-◌, ◌^◌, ℕ, min, sym, subst}
use Rattle.std.specs.Prelude.{Err}
use Rattle.type_layout.specs.declared.table.TypeError.TheVariants.{TooLarge}
use Rattle.type_layout.specs.Layouts.{size_over}
use Rattle.type_layout.specs.Table.{IsAddable}
use Rattle.scopes.specs.Environment.{Environment}
use Rattle.scopes.proofs.GrowthLaws.{grown-after}
use Rattle.scopes.proofs.scope.Scope.add_type.Goals as goal

pub invariant_of-self : goal.invariant_of-self
invariant_of-self c =
    let addable : IsAddable c.self.inside.types c.args.origin c.args.one =
    subst (λ (e : Environment). IsAddable e.types c.args.origin c.args.one) (sym c.self.view_is) c.requires in
    record {
      few_blocks = c.self.invariant.few_blocks;
      few_units = c.self.invariant.few_units;
      grown = grown-after c.self.inside.types c.add.new.self c.args.origin c.args.number c.args.one c.add.result
          c.self.invariant.grown addable c.add.ensures.ok c.add.ensures.err;
    }

pub returns-clause-too_large : goal.returns-clause-too_large
returns-clause-too_large c =
    subst (λ (e : Environment). (bytes : ℕ) → (c.add.result ≡ Err (TooLarge bytes))
    ↔ ((65520 < size_over e.types.types c.args.one) × (bytes ≡ min (size_over e.types.types c.args.one) (2 ^ 64 - 1))))
    c.self.view_is c.add.ensures.too_large

use Rattle.std.proofs.Common.{Bool, true, false, sym, ◌∙◌}
use Rattle.type_layout.specs.declared.definitions.Origin.{Origin}
use Rattle.tp_meaning.specs.Programs.{is_origin}
use Rattle.interpreter_store.specs.cell_store.Views.{view_key}
use Rattle.interpreter_effects.proofs.program_names.Positions.{search_turns}
use Rattle.interpreter_effects.proofs.program_names.classes.type_of_class.Goals as goal

pub returns-then-is_origin : goal.returns-then-is_origin
returns-then-is_origin c =
    let test : Origin → Bool = is_origin c.args.types.now (view_key c.args.class.now) in
    let origin = c.is_origin.ensures in
    sym (c.types.invariant ∙ search_turns test c.args.types.now.origins c.types.number origin.0 true origin.1 (sym c.if-is_origin.true ∙ origin.2))

pub types-preserved : goal.types-preserved
types-preserved c =
    let test : Origin → Bool = is_origin c.args.types.now (view_key c.args.class.now) in
    let origin = c.is_origin.ensures in
    c.types.invariant ∙ search_turns test c.args.types.now.origins c.types.number origin.0 false origin.1 (sym c.if-is_origin.false ∙ origin.2)

use Rattle.std.proofs.Common.{refl}
use Rattle.program_samples.proofs.Trees.{init_tree, tell_tree, main_tree, tell_view, main_view}
use Rattle.program_samples.proofs.Typed.{is_well_typed}
use Rattle.program_samples.proofs.well_typed_sample.Goals as goal

pub returns : goal.returns
returns c = λ b. (
  init_tree b,
  tell_tree b,
  main_tree b,
  record {
    init_is = refl;
    tell_is = tell_view b;
    main_is = main_view b;
    typed = is_well_typed (init_tree b) (tell_tree b) (main_tree b) refl (tell_view b) (main_view b);
  },
)

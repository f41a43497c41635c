use Rattle.std.proofs.Common.{◌≡◌, List, Some, None, sym, ap, ◌∙◌, eqb, set}
use Rattle.std.specs.List.{position}
use Rattle.common_values.specs.declared.blocks.Row.{Row}
use Rattle.common_values.specs.Blocks.{with_one_less}
use Rattle.common_values.proofs.BlockLemmas.{placed, nowhere}
use Rattle.common_values.proofs.blocks.remove_block.Goals as goal

pub returns-in-Some : goal.returns-in-Some
returns-in-Some c =
    let found : position (λ (row : Row). eqb row.size c.args.size) c.args.rows.now.items ≡ Some c.in-Some.place = ap (λ (l : List Row). position (λ (row : Row). eqb row.size c.args.size) l) (sym c.as_slice.ensures.value) ∙ sym c.place_of.ensures.value ∙ c.in-Some.is in
    let at = placed c.args.size c.args.rows.now.items c.in-Some.place c.index.result.now found in
    ap (set c.args.rows.now.items c.in-Some.place) (c.with_one_less.ensures ∙ ap with_one_less c.index.ensures) ∙ sym at.less

pub returns-in-None : goal.returns-in-None
returns-in-None c =
    let none : position (λ (row : Row). eqb row.size c.args.size) c.args.rows.now.items ≡ None = ap (λ (l : List Row). position (λ (row : Row). eqb row.size c.args.size) l) (sym c.as_slice.ensures.value) ∙ sym c.place_of.ensures.value ∙ c.in-None.is in
    sym (nowhere c.args.size c.args.rows.now.items none).less

use Rattle.std.proofs.Common.{◌≡◌, List, Some, None, sym, ap, ◌∙◌, eqb, set, arith}
use Rattle.std.specs.List.{position}
use Rattle.common_values.specs.declared.blocks.Row.{Row}
use Rattle.common_values.specs.Blocks.{live_of, with_one_more}
use Rattle.common_values.proofs.BlockLemmas.{placed, nowhere}
use Rattle.common_values.proofs.blocks.add_block.Goals as goal

pub with_one_more-requires : goal.with_one_more-requires
with_one_more-requires c =
    let found : position (λ (row : Row). eqb row.size c.args.size) c.args.rows.now.items ≡ Some c.in-Some.place = ap (λ (l : List Row). position (λ (row : Row). eqb row.size c.args.size) l) (sym c.as_slice.ensures.value) ∙ sym c.place_of.ensures.value ∙ c.in-Some.is in
    let at = placed c.args.size c.args.rows.now.items c.in-Some.place c.index.result.now found in
    let live : live_of c.args.size c.args.rows.now.items ≡ c.index.result.now.live = at.live ∙ ap (λ (row : Row). row.live) (sym c.index.ensures) in
    omega (arith, c.requires)

pub returns-in-Some-clause-ok : goal.returns-in-Some-clause-ok
returns-in-Some-clause-ok c =
    let found : position (λ (row : Row). eqb row.size c.args.size) c.args.rows.now.items ≡ Some c.in-Some.place = ap (λ (l : List Row). position (λ (row : Row). eqb row.size c.args.size) l) (sym c.as_slice.ensures.value) ∙ sym c.place_of.ensures.value ∙ c.in-Some.is in
    let at = placed c.args.size c.args.rows.now.items c.in-Some.place c.index.result.now found in
    ap (set c.args.rows.now.items c.in-Some.place) (c.with_one_more.ensures ∙ ap with_one_more c.index.ensures) ∙ sym at.more

pub returns-in_ok-push-in-None-clause-ok : goal.returns-in_ok-push-in-None-clause-ok
returns-in_ok-push-in-None-clause-ok c =
    let none : position (λ (row : Row). eqb row.size c.args.size) c.args.rows.now.items ≡ None = ap (λ (l : List Row). position (λ (row : Row). eqb row.size c.args.size) l) (sym c.as_slice.ensures.value) ∙ sym c.place_of.ensures.value ∙ c.in-None.is in
    let more = (nowhere c.args.size c.args.rows.now.items none).more in
    c.in_ok-push-in-None.ensures.items ∙ sym more

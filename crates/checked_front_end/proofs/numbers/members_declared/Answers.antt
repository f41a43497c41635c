use Rattle.std.proofs.Common.{◌≡◌, ◌∙◌, ap, arith}
use Rattle.std.specs.Prelude.{min, take}
use Rattle.std.proofs.lemmas.List.{take_all}
use Rattle.checked_front_end.specs.Numbers.{members_declared}
use Rattle.checked_front_end.proofs.Lines.{up_to, line_within, slots_within, methods_few}
use Rattle.checked_front_end.proofs.Methods.{all_once}
use Rattle.checked_front_end.proofs.numbers.members_declared.Goals as goal

pub loop-number-preserved : goal.loop-number-preserved
loop-number-preserved c =
    let next = up_to c.args.types.now.types c.loop-number.number c.get.result.now c.get.ensures in
    omega (arith, c.loop-number.invariant, c.saturating_add-count.ensures, c.own_members.ensures, next)

pub returns-clause-fit : goal.returns-clause-fit
returns-clause-fit c = λ few declared.
    let end = c.count-number-end.ensures in
    let types = c.args.types.now.types in
    let all = end.well_formed.defined in
    let whole : take c.loop-number.number types ≡ types = take_all c.loop-number.number types (omega (arith, c.loop-number-test.false, end.value)) in
    let count = c.loop-number.invariant ∙ ap (λ l. min (members_declared l) 18446744073709551615) whole in
    record {
      defined = all;
      fits = end.well_formed.fits;
      room = end.well_formed.few;
      few = λ ty. omega (arith, line_within types all ty, count, few);
      numbered = record {
        methods = λ ty. omega (arith, methods_few types ty, count, few);
        once = all_once types declared;
        slots = λ class. omega (arith, slots_within types all class, count, few);
      };
    }

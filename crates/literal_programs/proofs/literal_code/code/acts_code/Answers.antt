use Rattle.std.proofs.Common.{◌≡◌, ◌∙◌, ◌++◌, sym, ap, get_or, refl, length, take, arith}
use Rattle.std.specs.List.{flat_map}
use Rattle.std.proofs.Math.Seq.{take_all}
use Rattle.literal_programs.specs.declared.literal_code.act.Act.{Act}
use Rattle.literal_programs.specs.declared.literal_code.act.Act.TheVariants as act
use Rattle.literal_programs.specs.literal_code.Code.{spelled, act_code, acts_code}
use Rattle.literal_programs.proofs.literal_code.CodeLaws.{spelled-more, acts_code-flat_map, acts_size_bound}
use Rattle.literal_programs.proofs.literal_code.ImageLaws.{length-acts_code}
use Rattle.literal_programs.proofs.literal_code.code.acts_code.Goals as goal

pub loop-act-preserved : goal.loop-act-preserved
loop-act-preserved c =
    let none : Act = act.Write 0 0 in
    let acts = c.deref-act-items.result.now in
    spelled-more c.loop-act.bytes c.push_act.new.bytes acts c.loop-act.act-index none (get_or acts c.loop-act.act-index none)
    c.loop-act-test.true refl c.loop-act.invariant c.in_ok-push_act.ensures

whole : (c : goal.In_ok-push_all) → c.push_all.new.bytes ≡ spelled (acts_code c.args.program.now.acts.items)
whole c =
    let acts = c.deref-act-items.result.now in
    let all : take c.loop-act.act-index acts ≡ acts = take_all c.loop-act.act-index acts c.loop-act-test.false in
    c.in_ok-push_all.ensures ∙ ap (λ bs. bs ++ spelled c.halt_code.result) c.loop-act.invariant
    ∙ ap (λ l. spelled (flat_map act_code l) ++ spelled c.halt_code.result) all
    ∙ ap (λ l. spelled (flat_map act_code acts) ++ spelled l) c.halt_code.ensures
    ∙ sym (acts_code-flat_map acts)
    ∙ ap (λ l. spelled (acts_code l)) c.deref-act-items.ensures.value

pub returns-clause-code : goal.returns-clause-code
returns-clause-code c = whole c

pub returns-clause-size : goal.returns-clause-size
returns-clause-size c = ap length (whole c) ∙ length-acts_code c.args.program.now.acts.items

pub returns-clause-short : goal.returns-clause-short
returns-clause-short c =
    let size = ap length (whole c) ∙ length-acts_code c.args.program.now.acts.items in
    let bound = acts_size_bound c.args.program.now.acts.items in
    let few = c.args.program.now.acts_fit in
    omega (arith, size, bound, few)

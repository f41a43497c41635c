use Rattle.std.proofs.Common.{List, ◌∙◌, sym, ap}
use Rattle.std.specs.List.{list_all}
use Rattle.source_graph.specs.declared.sources.Source.{Source}
use Rattle.unit_interface.specs.declared.interfaces.Interface.{Interface}
use Rattle.front_end.specs.source_interfaces.Scopes.{is_shown}
use Rattle.front_end.proofs.source_interfaces.Rounds.{round_more, interfaces_shown, interfaces_deep}
use Rattle.front_end.proofs.source_interfaces.interfaces.interfaces_of.Goals as goal

pub returns-then-are_all_shown-clause-interfaces : goal.returns-then-are_all_shown-clause-interfaces
returns-then-are_all_shown-clause-interfaces c =
    let all = ap (λ (have : List Interface). list_all (λ (source : Source). is_shown have source.name) c.args.sources.now) (sym c.as_slice.ensures.value) ∙ sym c.are_all_shown.ensures ∙ c.if-are_all_shown.true in
    interfaces_shown c.args.sources.now c.loop-round.have.items c.loop-round.invariant.0 all

pub loop-round-preserved : goal.loop-round-preserved
loop-round-preserved c = (
  c.in_ok-show_round.ensures.shown,
  round_more c.args.sources.now c.loop-round.have.items c.show_round.new.have.items c.loop-round._round c.loop-round.invariant.1 c.in_ok-show_round.ensures.steps,
)

pub returns-clause-interfaces : goal.returns-clause-interfaces
returns-clause-interfaces c =
    interfaces_deep c.args.sources.now c.loop-round.have.items c.loop-round._round c.requires.acyclic c.loop-round-test.false c.loop-round.invariant.0 c.loop-round.invariant.1

use Rattle.std.proofs.Common.{List, ◌∙◌, sym, ap, subst}
use Rattle.std.proofs.lemmas.Result.{err_from_is_err_and}
use Rattle.unit_interface.specs.declared.interfaces.Interface.{Interface}
use Rattle.tp_check_decl.specs.Shown.{IsShownAs}
use Rattle.front_end.specs.source_interfaces.Scopes.{outer_units, outer_scope, AreThere, AreFitting}
use Rattle.front_end.specs.source_interfaces.Interfaces.{is_settled, ShowsNothing}
use Rattle.front_end.proofs.source_interfaces.Extended.{add_shown}
use Rattle.front_end.proofs.source_interfaces.Rounds.{passed, made}
use Rattle.front_end.proofs.source_interfaces.Steps.{lacks_here, lacks_memory}
use Rattle.front_end.proofs.source_interfaces.interfaces.show_due.Goals as goal

pub returns-then-is_settled-clause-step : goal.returns-then-is_settled-clause-step
returns-then-is_settled-clause-step c =
    let s = c.index-sources-place.result in
    let settled = ap (λ (all : List Interface). is_settled c.args.sources.now all s) (sym c.as_slice.ensures.value) ∙ sym c.is_settled.ensures ∙ c.if-is_settled.true in
    passed c.args.sources.now c.args.have.now.items c.args.place s c.requires.within c.index-sources-place.is settled

pub returns-in_err-interface-clause-cause : goal.returns-in_err-interface-clause-cause
returns-in_err-interface-clause-cause c =
    let s = c.index-sources-place.result in
    let texts = c.args.texts.now in
    let error = c.in_err-interface.field-0.0 in
    let settled = ap (λ (all : List Interface). is_settled c.args.sources.now all s) (sym c.as_slice.ensures.value) ∙ sym c.is_settled.ensures ∙ c.if-is_settled.false in
    let why = subst (λ (all : List Interface). ShowsNothing texts all s error) c.as_slice-2.ensures.value c.in_err-interface.ensures.cause in
    let p = err_from_is_err_and c.from_residual.result c.from_residual.ensures.1 in
    rw (p.1, p.2) (lacks_here texts c.args.sources.now c.args.have.now.items c.args.place s error c.requires.shown c.requires.within c.index-sources-place.is settled why)

pub returns-in_err-push-clause-cause : goal.returns-in_err-push-clause-cause
returns-in_err-push-clause-cause c =
    let s = c.index-sources-place.result in
    let settled = ap (λ (all : List Interface). is_settled c.args.sources.now all s) (sym c.as_slice.ensures.value) ∙ sym c.is_settled.ensures ∙ c.if-is_settled.false in
    let p = err_from_is_err_and c.from_residual-in_err-push.result c.from_residual-in_err-push.ensures.1 in
    rw p.1 (lacks_memory c.args.texts.now c.args.sources.now c.args.have.now.items c.args.place s p.0 c.requires.shown c.requires.within c.index-sources-place.is settled p.2)

pub returns-clause-shown : goal.returns-clause-shown
returns-clause-shown c =
    let s = c.index-sources-place.result in
    let i = c.in_ok-interface.interface in
    let same = c.as_slice-2.ensures.value in
    let there = subst (λ (all : List Interface). AreThere all (outer_units s)) same c.in_ok-interface.ensures.there in
    let fits = subst (λ (all : List Interface). AreFitting all s.name (outer_units s)) same c.in_ok-interface.ensures.fits in
    let shows = subst (λ (all : List Interface). IsShownAs s.name s.says (outer_scope all s) s.tree i) same c.in_ok-interface.ensures.shows in
    add_shown c.args.sources.now c.args.have.now.items c.push.new.self.items c.args.place s i c.in_ok-push.ensures.items c.requires.shown c.requires.within c.index-sources-place.is
    c.in_ok-interface.ensures.named there fits shows

pub returns-clause-step : goal.returns-clause-step
returns-clause-step c =
    made c.args.sources.now c.args.have.now.items c.push.new.self.items c.args.place c.index-sources-place.result c.in_ok-interface.interface c.in_ok-push.ensures.items c.requires.within
    c.index-sources-place.is c.in_ok-interface.ensures.named

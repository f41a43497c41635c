use Rattle.std.proofs.Common.{◌≡◌, ◌∙◌, ◌++◌, ◌∷◌, [], ap, sym, Bool}
use Rattle.std.proofs.lemmas.Result.{IfOk-weaker}
use Rattle.scopes.specs.Environment.{Environment}
use Rattle.scopes.proofs.BlockLaws.{has_innermost-of, entered-in}
use Rattle.scopes.proofs.scope.Scope.enter.Goals as goal

pub returns-clause-is_new : goal.returns-clause-is_new
returns-clause-is_new c =
    let is : c.args.self.now.blocks ≡ c.pop.new.self.items ++ c.in-Some.block ∷ [] =
    ap (λ (e : Environment). e.blocks) (sym c.self.view_is) ∙ c.in-Some.ensures.items in
    rw (has_innermost-of c.args.self.now c.pop.new.self.items c.in-Some.block c.args.name is) c.enter-entered.ensures.is_new

pub returns-clause-entered : goal.returns-clause-entered
returns-clause-entered c =
    let is : c.args.self.now.blocks ≡ c.pop.new.self.items ++ c.in-Some.block ∷ [] =
    ap (λ (e : Environment). e.blocks) (sym c.self.view_is) ∙ c.in-Some.ensures.items in
    IfOk-weaker c.enter-entered.result _ _
    (λ (is_new : Bool) entered. ap (λ (e : Environment). (let new : Environment = record e { blocks = c.push_reserved.new.self.items } in new)) c.self.view_is
    ∙ entered-in c.args.self.now c.pop.new.self.items c.push_reserved.new.self.items c.in-Some.block c.enter-entered.new.self c.args.name c.args.entry is_new
    is c.push_reserved.ensures.items entered)
    c.enter-entered.ensures.entered

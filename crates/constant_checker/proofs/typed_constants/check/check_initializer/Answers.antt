use Rattle.std.proofs.Common.{List, ℕ}
use Rattle.typing_rules.proofs.JudgementLaws.{typed_answer, complete_answer, fails_answer}
use Rattle.constant_checker.specs.typed_constants.Trees.{view_initializer}
use Rattle.constant_checker.specs.typed_constants.Initializers.{first_value}
use Rattle.constant_checker.proofs.typed_constants.InitializerLaws.{lawful}
use Rattle.constant_checker.proofs.typed_constants.Answered.{whole_answer}
use Rattle.constant_checker.proofs.typed_constants.check.check_initializer.Goals as goal

pub returns-clause-typed : goal.returns-clause-typed
returns-clause-typed c =
    let tree = view_initializer c.args.tree.now in
    rw c.answered.ensures (typed_answer (λ (b : List ℕ). b) (first_value c.args.scope.now c.args.place c.args.ty tree) (lawful c.args.scope.now c.args.place c.args.ty tree) c.first_value.result c.first_value.ensures)

pub returns-clause-complete : goal.returns-clause-complete
returns-clause-complete c =
    let tree = view_initializer c.args.tree.now in
    rw c.answered.ensures (complete_answer (λ (b : List ℕ). b) (first_value c.args.scope.now c.args.place c.args.ty tree) (lawful c.args.scope.now c.args.place c.args.ty tree) c.first_value.result c.first_value.ensures)

pub returns-clause-fails : goal.returns-clause-fails
returns-clause-fails c =
    let tree = view_initializer c.args.tree.now in
    rw c.answered.ensures (fails_answer (λ (b : List ℕ). b) (first_value c.args.scope.now c.args.place c.args.ty tree) (lawful c.args.scope.now c.args.place c.args.ty tree) c.first_value.result c.first_value.ensures)

pub returns-clause-whole : goal.returns-clause-whole
returns-clause-whole c =
    let tree = view_initializer c.args.tree.now in
    let holds = typed_answer (λ (b : List ℕ). b) (first_value c.args.scope.now c.args.place c.args.ty tree) (lawful c.args.scope.now c.args.place c.args.ty tree) c.first_value.result c.first_value.ensures in
    let measured = rw c.types.ensures at c.count-count.ensures.measured in
    rw c.answered.ensures (whole_answer c.args.scope.now c.args.place c.args.ty tree measured _ holds)

use Rattle.std.proofs.Common.{◌≡◌, List, [], ◌∷◌, Some, Ok, map, refl, ap, sym, ◌∙◌}
use Rattle.typed_tree.specs.declared.expressions.Arg.{Arg}
use Rattle.typed_tree.specs.declared.expressions.Arg.TheVariants as arg
use Rattle.typed_tree.specs.Expressions.{Std}
use Rattle.typed_tree.specs.Standard as routine
use Rattle.typing_rules.specs.Sorts.{word}
use Rattle.call_rules.specs.Given.{view_handed, arguments_of}
use Rattle.call_rules.proofs.standard_rules.Nodes.{std_node}
use Rattle.call_rules.proofs.standard_rules.sizes.size_asked.Goals as goal

pub returns : goal.returns
returns c =
    let more = c.in_ok-push.ensures.items in
    let none = c.new-args.ensures.items in
    let items : c.push.new.self.items ≡ arg.Place c.args.at ∷ [] = cc (more, none) in
    sym (ap Ok (std_node (Some word) routine.size_of c.push.new.self ∙ ap (λ (l : List Arg). Std (Some word) routine.size_of (arguments_of (map view_handed l))) items))

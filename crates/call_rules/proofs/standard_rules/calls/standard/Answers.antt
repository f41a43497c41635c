use Rattle.std.proofs.Common.{◌≡◌, true, map, sym, ◌∙◌}
use Rattle.typed_tree.specs.Expressions.{view_expr}
use Rattle.typing_rules.specs.Sorts.{sort_of}
use Rattle.call_rules.specs.Given.{view_handed}
use Rattle.call_rules.specs.standard_rules.Standard.{accepts, takes_text, handed}
use Rattle.call_rules.proofs.standard_rules.Nodes.{standard_gives}
use Rattle.call_rules.proofs.standard_rules.calls.standard.Goals as goal

pub returns : goal.returns
returns c =
    let types = c.args.types.now.types in
    let es = map view_expr c.args.values.items in
    let one = c.in-Some.one in
    let e = sym c.signature_of.ensures ∙ c.in-Some.is in
    let a = rw c.as_slice.ensures.value at c.accepts.ensures in
    let h : accepts one.shape (map (sort_of types) es) ≡ true = cc (a, c.if-not-accepts.false) in
    let t = rw c.as_slice-2.ensures.value at c.result_type.ensures in
    let g = rw c.takes_text.ensures at c.in_ok-args.ensures in
    let m : map (handed types (takes_text one.shape)) es ≡ map view_handed c.in_ok-args.args.items = cc g in
    standard_gives types c.args.place c.args.number es one c.result_type.result c.in_ok-args.args e h t m

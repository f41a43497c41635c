use Rattle.std.proofs.Common.{arith, ◌≤◌, length, ap, sym}
use Rattle.std.proofs.lemmas.List.{get_or_past}
use Rattle.type_layout.specs.declared.layout.Layout.{Layout}
use Rattle.type_layout.specs.Layouts.{layouts_of, plain}
use Rattle.type_layout.proofs.Given.{length-layouts_of}
use Rattle.typed_tree.specs.Frames.{even}
use Rattle.typed_tree.proofs.frames.even_size.Goals as goal

pub returns-else-id-count : goal.returns-else-id-count
returns-else-id-count c =
    let types = c.args.types.now.types in
    let past : length (layouts_of types) ≤ c.args.id.0 = omega (arith, length-layouts_of types, c.if-id-count.false, c.count.ensures.value) in
    sym (ap (λ (l : Layout). even l.size) (get_or_past (layouts_of types) c.args.id.0 (plain 0) past))

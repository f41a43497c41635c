use Rattle.std.proofs.Common.{arith, ◌≡◌, ◌+◌, ◌-◌, ◌^◌, min, drop, length, map, []}
use Rattle.std.proofs.lemmas.List.{drop_all}
use Rattle.typed_tree.specs.Statements.{view_taken}
use Rattle.lower_places.specs.Data.{literals_of_taken}
use Rattle.lower_places.proofs.literals.literals_of_taken.Goals as goal

pub returns : goal.returns
returns c =
    let all = c.args.items.now in
    let past : drop c.loop-item.item-index all ≡ [] = drop_all c.loop-item.item-index all (omega arith) in
    let last : min (length (literals_of_taken (map view_taken all))) (2 ^ 32 - 1) ≡ min (c.loop-item.sum + 0) (2 ^ 32 - 1) = rw past at c.loop-item.invariant.1 in
    let small = c.loop-item.invariant.0 in
    omega (arith, last, small)

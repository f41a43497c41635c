use Rattle.std.proofs.Common.{◌≡◌, length}
use Rattle.std.specs.Prelude.{reverse}
use Rattle.declaration_checker.specs.type_denoters.Additions.{denoted}
use Rattle.declaration_checker.specs.type_denoters.Denoters.{arrays_of}
use Rattle.declaration_checker.proofs.type_denoters.bounds.arrays_of.Given as goal

abbrev pub invariant-loop-index : goal.invariant-loop-index
invariant-loop-index l =
    (arrays_of l.unit l.place (reverse l.indexes.items) (denoted l.ty l.scope)).run
    ≡ (arrays_of l.unit l.place (reverse l.fn.indexes.items) (denoted l.fn.element l.fn.scope)).run

abbrev pub decreases-loop-index : goal.decreases-loop-index
decreases-loop-index l = length l.indexes.items

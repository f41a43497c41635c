-- The unit's weight, and that its routines call no others.
use Rattle.std.proofs.Common.{◌≡◌, ◌≤◌, refl, subst, sym}
use Rattle.std.proofs.lemmas.Bool.{leb-true}
use Rattle.flat_code.specs.Program.{UnitCode}
use Rattle.flat_code.specs.Weights.{unit_weight}
use Rattle.flat_code.specs.leaf_routines.Leaves.{AreLeaves}
use Rattle.heap_runtime.specs.Unit.{heap_code}

pub leaves : AreLeaves 24 heap_code.routines
leaves = refl

pub light : unit_weight heap_code ≤ 6000
light = leb-true (unit_weight heap_code) 6000 refl

-- of what is that unit
pub as_light : (unit : UnitCode) → unit ≡ heap_code → unit_weight unit ≤ 6000
as_light unit same = subst (λ (u : UnitCode). unit_weight u ≤ 6000) (sym same) light

-- The unit's weight, and that its routines call no others.
use Rattle.std.proofs.Common.{◌≡◌, ◌≤◌, refl, subst, sym}
use Rattle.std.proofs.lemmas.Bool.{leb-true}
use Rattle.flat_code.specs.Program.{UnitCode}
use Rattle.flat_code.specs.Weights.{unit_weight}
use Rattle.flat_code.specs.leaf_routines.Leaves.{AreLeaves}
use Rattle.rt_text.specs.Unit.{text_code}

pub leaves : AreLeaves 48 text_code.routines
leaves = refl

pub light : unit_weight text_code ≤ 18000
light = leb-true (unit_weight text_code) 18000 refl

-- of what is that unit
pub as_light : (unit : UnitCode) → unit ≡ text_code → unit_weight unit ≤ 18000
as_light unit same = subst (λ (u : UnitCode). unit_weight u ≤ 18000) (sym same) light

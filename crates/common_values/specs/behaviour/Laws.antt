-- Following composes, and holds backwards where runs are over.
use Rattle.std.specs.Prelude.{◌≡◌, ℕ, ◌≤◌, ◌⊎◌}
use Rattle.common_values.specs.behaviour.Seen.{Seen, Shows, Follows, IsOver, IsUndefined, Begins}

pub record ShowsLaws : Type 0 where
  pub itself : (n : ℕ) (x : Seen) → Shows n n x x
  pub twice : (n k m : ℕ) (x y z : Seen) → Shows n k x y → Shows k m y z → Shows n m x z
  -- less may be asked, and more be given
  pub fewer : (n n' m : ℕ) (x y : Seen) → n' ≤ n → Shows n m x y → Shows n' m x y

pub record FollowsLaws : Type 0 where
  pub itself : (run : ℕ → Seen) → Follows run run
  pub twice : (first second third : ℕ → Seen) → Follows first second → Follows second third → Follows first third

-- what the target shows once it is over is what the source shows at that bound, and the target never wrote what the source does not write, up to an undefined act
pub record BackwardLaws (source target : ℕ → Seen) : Type 0 where
  pub over : (m : ℕ) → IsOver (target m).end → (source m ≡ target m) ⊎ IsUndefined (source m).end
  pub out : (m : ℕ) → Begins (target m).out (source m).out ⊎ IsUndefined (source m).end
  pub err : (m : ℕ) → Begins (target m).err (source m).err ⊎ IsUndefined (source m).end

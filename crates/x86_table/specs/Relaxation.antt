-- One pass over lines that makes near jumps short.
use Rattle.std.specs.Prelude.{Bool, ℕ, ◌+◌, List, [], ◌∷◌, nat_le, ◌&&◌, if◌then◌else◌}
use Rattle.x86_table.specs.declared.instr.Cond.TheVariants as cond
use Rattle.x86_table.specs.declared.line.Line.{Line}
use Rattle.x86_table.specs.declared.line.Line.TheVariants.{JumpShort, JumpNear}
use Rattle.x86_table.specs.Lines.{line_size, label_place}

-- a distance from -128 to 127
abbrev pub reaches : ℕ → ℕ → Bool
reaches end target = nat_le end (target + 128) && nat_le target (end + 127)

-- a near jump at p that is given its label's place
abbrev pub shortened_jump : Bool → ℕ → Line
shortened_jump b l = if b then JumpShort cond.Always l else JumpNear l

abbrev pub shortened_line : (ℕ → ℕ) → ℕ → Line → Line
shortened_line labels p (JumpNear l) = shortened_jump (reaches (p + 3) (labels l)) l
shortened_line labels p x = x

abbrev pub shortened_from : (ℕ → ℕ) → ℕ → List Line → List Line
shortened_from labels p [] = []
shortened_from labels p (x ∷ xs) = shortened_line labels p x ∷ shortened_from labels (p + line_size x) xs

-- each near jump made short that reaches its label as the lines stand
abbrev pub shortened : List Line → List Line
shortened lines = shortened_from (label_place lines) 0 lines

-- 1 for a near jump
abbrev pub is_near : Line → ℕ
is_near (JumpNear l) = 1
is_near x = 0

abbrev pub near_jumps : List Line → ℕ
near_jumps [] = 0
near_jumps (x ∷ xs) = is_near x + near_jumps xs

-- Lines of code: instructions, labels, and jumps and calls to labels. How large they are, where they lie, and which
-- bytes they are.
use Rattle.std.specs.Prelude.{◌≡◌, Bool, false, ℕ, ◌+◌, ◌-◌, ◌%◌, ◌^◌, ◌<◌, ◌≤◌, ◌⊎◌, ℤ, pos, ◌+ℤ◌, List, [], ◌∷◌, ◌++◌, length, take, Option, Some, None, MatchOption, slice_get, nat_eq, if◌then◌else◌}
use Rattle.x86_table.specs.declared.instr.Cond.TheVariants as cond
use Rattle.x86_table.specs.declared.instr.Instr.{Instr}
use Rattle.x86_table.specs.declared.instr.Instr.TheVariants as instr
use Rattle.x86_table.specs.declared.line.Line.{Line}
use Rattle.x86_table.specs.declared.line.Line.TheVariants.{One, Label, JumpShort, JumpNear, CallNear}
use Rattle.x86_table.specs.Spelling.{spelling}

-- how many bytes a line has
abbrev pub line_size : Line → ℕ
line_size (One i) = length (spelling i)
line_size (Label l) = 0
line_size (JumpShort c l) = 2
line_size (JumpNear l) = 3
line_size (CallNear l) = 3

abbrev pub code_size : List Line → ℕ
code_size [] = 0
code_size (x ∷ xs) = line_size x + code_size xs

-- the place of each line, where the first stands at p
abbrev pub places_from : ℕ → List Line → List ℕ
places_from p [] = []
places_from p (x ∷ xs) = p ∷ places_from (p + line_size x) xs

-- whether a line is the label l
abbrev pub marks : ℕ → Line → Bool
marks l (Label k) = nat_eq k l
marks l _ = false

-- the place of the first label l, where the first line stands at p; the end of the code if there is no such label
abbrev pub label_from : ℕ → List Line → ℕ → ℕ
label_from p [] l = p
label_from p (x ∷ xs) l = if marks l x then p else label_from (p + line_size x) xs l

abbrev pub label_place : List Line → ℕ → ℕ
label_place lines l = label_from 0 lines l

-- the distance from the end of a jump to its target, as two's complement of one byte and of two
abbrev pub byte_distance : ℕ → ℕ → ℕ
byte_distance end target = (target + 65536 - end) % 256

abbrev pub word_distance : ℕ → ℕ → ℕ
word_distance end target = (target + 65536 - end) % 65536

-- the instruction of a line that stands at p, where labels have these places: a label is none
abbrev pub line_instr : (ℕ → ℕ) → ℕ → Line → Option Instr
line_instr labels p (One i) = Some i
line_instr labels p (Label l) = None
line_instr labels p (JumpShort c l) = Some (instr.JumpShort c (byte_distance (p + 2) (labels l)))
line_instr labels p (JumpNear l) = Some (instr.JumpNear (word_distance (p + 3) (labels l)))
line_instr labels p (CallNear l) = Some (instr.CallNear (word_distance (p + 3) (labels l)))

abbrev pub spelling_if : Option Instr → List ℕ
spelling_if None = []
spelling_if (Some i) = spelling i

-- the bytes of lines, the first of which stands at p
abbrev pub bytes_from : (ℕ → ℕ) → ℕ → List Line → List ℕ
bytes_from labels p [] = []
bytes_from labels p (x ∷ xs) = spelling_if (line_instr labels p x) ++ bytes_from labels (p + line_size x) xs

-- the bytes of code that begins at 0
abbrev pub assembled : List Line → List ℕ
assembled lines = bytes_from (label_place lines) 0 lines

-- a distance from -128 to 127
abbrev pub Reaches : ℕ → ℕ → Type 0
Reaches end target = (end ≤ target + 128) × (target ≤ end + 127)

abbrev pub LineReaches : (ℕ → ℕ) → ℕ → Line → Type 0
LineReaches labels p (JumpShort c l) = Reaches (p + 2) (labels l)
LineReaches labels p _ = Unit {0}

-- each short jump of these lines, the first of which stands at p, reaches its label
abbrev pub ReachesFrom : (ℕ → ℕ) → ℕ → List Line → Type 0
ReachesFrom labels p [] = Unit {0}
ReachesFrom labels p (x ∷ xs) = LineReaches labels p x × ReachesFrom labels (p + line_size x) xs

abbrev pub ShortJumpsReach : List Line → Type 0
ShortJumpsReach lines = ReachesFrom (label_place lines) 0 lines

-- a short jump at p whose distance d lies outside -128..127
abbrev pub IsTooFarAt : (ℕ → ℕ) → ℕ → ℤ → Line → Type 0
IsTooFarAt labels p d (JumpShort c l) = (pos (p + 2) +ℤ d ≡ pos (labels l)) × ¬ Reaches (p + 2) (labels l)
IsTooFarAt labels p d _ = ⊥

-- the line of this number is such a jump
abbrev pub IsTooFar : List Line → ℕ → ℤ → Type 0
IsTooFar lines number d = MatchOption (slice_get lines number) ⊥ (λ x. IsTooFarAt (label_place lines) (code_size (take number lines)) d x)

-- code that a segment holds beside the room at its end, and whose lines have numbers of 32 bits
abbrev pub IsSmall : List Line → Type 0
IsSmall lines = (code_size lines ≤ 65520) × (length lines < 2 ^ 32)

abbrev pub LineIsFar : (ℕ → ℕ) → ℕ → Line → Type 0
LineIsFar labels p (JumpNear l) = ¬ Reaches (p + 3) (labels l)
LineIsFar labels p _ = Unit {0}

-- no near jump of these lines has a distance that a short jump could have
abbrev pub IsFarFrom : (ℕ → ℕ) → ℕ → List Line → Type 0
IsFarFrom labels p [] = Unit {0}
IsFarFrom labels p (x ∷ xs) = LineIsFar labels p x × IsFarFrom labels (p + line_size x) xs

abbrev pub NearJumpsAreFar : List Line → Type 0
NearJumpsAreFar lines = IsFarFrom (label_place lines) 0 lines

-- a line, or the short jump in place of a near one
abbrev pub LineShortens : Line → Line → Type 0
LineShortens (JumpNear l) y = (y ≡ JumpNear l) ⊎ (y ≡ JumpShort cond.Always l)
LineShortens x y = y ≡ x

-- the same lines in the same order, some near jumps replaced by short ones
abbrev pub Shortens : List Line → List Line → Type 0
Shortens [] ys = ys ≡ []
Shortens (x ∷ xs) [] = ⊥
Shortens (x ∷ xs) (y ∷ ys) = LineShortens x y × Shortens xs ys

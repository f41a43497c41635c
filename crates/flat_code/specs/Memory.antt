-- Memory as flat code sees it: the machine's own addresses, of which only some can be reached.
use Rattle.std.specs.Prelude.{◌≡◌, ◌++◌, ℕ, zero, suc, ◌+◌, ◌-◌, ◌*◌, ◌%◌, ◌==◌, ◌&&◌, nat_le, nat_lt, if◌then◌else◌, List, [], ◌∷◌, Result, Ok, Err, slice_index_or}
use Rattle.flat_code.specs.declared.memory.Cell.{Cell}
use Rattle.flat_code.specs.declared.memory.Cell.TheVariants.{Known, Unset, Outside}
use Rattle.flat_code.specs.declared.memory.Place.{Place}
use Rattle.flat_code.specs.declared.memory.Trap.{Trap}
use Rattle.flat_code.specs.declared.memory.Trap.TheVariants.{Bad}
use Rattle.common_values.specs.integers.Words.{w16, wrap, wrapping_add, low_byte, high_byte, word_from_bytes}

-- what each address holds; src/memory.rt says what a cell is
abbrev pub Cells : Type 0
Cells = ℕ → Cell

-- the cells of a whole memory
abbrev pub cells_of : List Cell → Cells
cells_of cells address = slice_index_or cells address Outside

-- the address of the byte that lies i bytes after a place; offsets wrap inside the segment
abbrev pub address_of : Place → ℕ → ℕ
address_of p i = (16 * p.segment + wrap w16 (p.offset + i)) % 1048576

abbrev pub place_after : Place → ℕ → Place
place_after p n = record p { offset = wrapping_add w16 p.offset n }

-- a value, or why there is none
abbrev pub Found : Type 0 → Type 0
Found A = Result A Trap

infixl 10 ◌>>=◌
abbrev pub ◌>>=◌ : {A B : Type 0} → Result A Trap → (A → Result B Trap) → Result B Trap
(Ok x) >>= f = f x
(Err trap) >>= f = Err trap

-- a value was found that is seen as this, or there is none for the same cause
abbrev pub Finds : {X Y : Type 0} → (X → Y) → Result X Trap → Found Y → Type 0
Finds view (Ok x) y = y ≡ Ok (view x)
Finds view (Err trap) y = y ≡ Err trap

-- what was found after something else
abbrev pub after_prefix : {A : Type 0} → List A → Found (List A) → Found (List A)
after_prefix front found = found >>= λ rest. Ok (front ++ rest)

-- ---- reading

abbrev pub byte_in : Cell → Found ℕ
byte_in (Known byte) = Ok byte
byte_in Unset = Err (Bad 1)
byte_in Outside = Err (Bad 2)

abbrev pub byte_at : Cells → Place → ℕ → Found ℕ
byte_at m p i = byte_in (m (address_of p i))

abbrev pub word_at : Cells → Place → Found ℕ
word_at m p = byte_at m p 0 >>= λ low. byte_at m p 1 >>= λ high. Ok (word_from_bytes low high)

-- the offset stands first
abbrev pub far_at : Cells → Place → Found Place
far_at m p = word_at m p >>= λ offset. word_at m (place_after p 2) >>= λ segment. Ok (record { segment = segment; offset = offset })

-- n bytes from the i-th on
abbrev pub bytes_at : Cells → Place → ℕ → ℕ → Found (List ℕ)
bytes_at m p i zero = Ok []
bytes_at m p i (suc n) = byte_at m p i >>= λ byte. bytes_at m p (i + 1) n >>= λ bytes. Ok (byte ∷ bytes)

-- ---- writing

abbrev pub put : Cells → ℕ → Cell → Cells
put m a c x = if x == a then c else m x

-- the cells after a write to a cell that was so before
abbrev pub if_inside : Cell → Cells → Found Cells
if_inside (Known byte) m = Ok m
if_inside Unset m = Ok m
if_inside Outside m = Err (Bad 2)

abbrev pub write : Cells → ℕ → Cell → Found Cells
write m a c = if_inside (m a) (put m a c)

-- bytes from the i-th on
abbrev pub store_bytes : Cells → Place → ℕ → List ℕ → Found Cells
store_bytes m p i [] = Ok m
store_bytes m p i (byte ∷ bytes) = write m (address_of p i) (Known byte) >>= λ m'. store_bytes m' p (i + 1) bytes

abbrev pub word_bytes : ℕ → List ℕ
word_bytes n = low_byte n ∷ high_byte n ∷ []

abbrev pub far_bytes : Place → List ℕ
far_bytes p = low_byte p.offset ∷ high_byte p.offset ∷ low_byte p.segment ∷ high_byte p.segment ∷ []

-- a cell as it is copied: unset stays unset
abbrev pub copied_cell : Cells → ℕ → Cell → Found Cells
copied_cell m a (Known byte) = write m a (Known byte)
copied_cell m a Unset = write m a Unset
copied_cell m a Outside = Err (Bad 2)

-- n bytes from the i-th on, one by one
abbrev pub copy : Cells → Place → Place → ℕ → ℕ → Found Cells
copy m to from i zero = Ok m
copy m to from i (suc n) = copied_cell m (address_of to i) (m (address_of from i)) >>= λ m'. copy m' to from (i + 1) n

-- ---- regions of the stack

-- the n bytes from an offset on become c
abbrev pub region : Cells → ℕ → ℕ → ℕ → Cell → Cells
region m segment low n c x = if nat_le (16 * segment + low) x && nat_lt x (16 * segment + low + n) then c else m x

-- words pushed one after another below an offset
abbrev pub pushed : Cells → ℕ → ℕ → List ℕ → Cells
pushed m segment sp [] = m
pushed m segment sp (v ∷ vs) = pushed (put (put m (16 * segment + (sp - 2)) (Known (low_byte v))) (16 * segment + (sp - 1)) (Known (high_byte v))) segment (sp - 2) vs

-- bytes that stand from the i-th on, whatever stood there
abbrev pub laid : Cells → Place → ℕ → List ℕ → Cells
laid m p i [] = m
laid m p i (byte ∷ bytes) = laid (put m (address_of p i) (Known byte)) p (i + 1) bytes

-- Which instruction stands at CS:IP.
use Rattle.std.proofs.Common.{◌≡◌, ℕ, ◌+◌, ◌*◌, ◌%◌, ◌<◌, ◌≤◌, List, [], ◌∷◌, ◌++◌, length, get_or, refl, sym, ap, ◌∙◌, arith, zero, suc}
use Rattle.std.specs.Prelude.{slice_index}
use Rattle.x86_table.specs.declared.instr.Instr.{Instr}
use Rattle.x86_table.specs.Spelling.{spelling}
use Rattle.x86_table.proofs.Spellings.{spelling_bounds}
use Rattle.cpu_8086.specs.State.{State}
use Rattle.cpu_8086.specs.Memory.{load_byte, address}
use Rattle.cpu_8086.specs.Step.{code_byte, fetched}

-- a list that another has at its front, by indices
front_by_index : (xs ys : List ℕ) → length xs ≤ length ys → ((k : ℕ) → k < length xs → get_or ys k 0 ≡ get_or xs k 0) → (rest : List ℕ) × (ys ≡ xs ++ rest)
front_by_index [] ys h e = (ys, refl)
front_by_index (x ∷ xs) [] h e = absurd (omega arith)
front_by_index (x ∷ xs) (y ∷ ys) h e =
    let hs : length xs ≤ length ys = omega arith in
    let t : (rest : List ℕ) × (ys ≡ xs ++ rest) = front_by_index xs ys hs (λ k lt. e (suc k) (omega arith)) in
    let first : y ≡ x = e 0 (omega arith) in
    (t.0, grind (arith, t.1))

fetched-at : (s : State) (k : ℕ) → k < 8 → get_or (fetched s) k 0 ≡ code_byte s k
unfolding fetched
fetched-at s zero h = refl
fetched-at s (suc zero) h = refl
fetched-at s (suc (suc zero)) h = refl
fetched-at s (suc (suc (suc zero))) h = refl
fetched-at s (suc (suc (suc (suc zero)))) h = refl
fetched-at s (suc (suc (suc (suc (suc zero))))) h = refl
fetched-at s (suc (suc (suc (suc (suc (suc zero)))))) h = refl
fetched-at s (suc (suc (suc (suc (suc (suc (suc zero))))))) h = refl
fetched-at s (suc (suc (suc (suc (suc (suc (suc (suc k)))))))) h = absurd (omega arith)

length-fetched : (s : State) → length (fetched s) ≡ 8
unfolding fetched
length-fetched s = refl

-- the bytes from CS:IP on, offsets wrapping, begin with an instruction's spelling
pub fetched_spells : (s : State) (i : Instr) → ((k : ℕ) → k < length (spelling i) → code_byte s k ≡ slice_index (spelling i) k) → (rest : List ℕ) × (fetched s ≡ spelling i ++ rest)
fetched_spells s i e =
    let bounds = spelling_bounds i in
    let n = length-fetched s in
    front_by_index (spelling i) (fetched s) (omega arith) (λ k lt. fetched-at s k (omega arith) ∙ e k lt)

-- where nothing wraps, a byte of code is the byte at its linear address
pub code_byte-linear : (s : State) (k : ℕ) → s.registers.ip + k < 65536 → 16 * s.cs + s.registers.ip + k < 1048576 → code_byte s k ≡ slice_index s.memory (16 * s.cs + s.registers.ip + k)
unfolding load_byte
code_byte-linear s k short low =
    let e : address s.cs ((s.registers.ip + k) % 65536) ≡ 16 * s.cs + s.registers.ip + k = omega arith in
    ap (slice_index s.memory) e

-- so a byte at its linear address is a byte of code
pub straight_code_byte : (s : State) (k : ℕ) → s.registers.ip + k < 65536 → 16 * s.cs + s.registers.ip + k < 1048576 → slice_index s.memory (16 * s.cs + s.registers.ip + k) ≡ code_byte s k
straight_code_byte s k short low = sym (code_byte-linear s k short low)

-- so a spelling at the linear address of CS:IP is what stands there
pub fetched_spells-linear : (s : State) (i : Instr) → s.registers.ip + length (spelling i) ≤ 65536 → 16 * s.cs + s.registers.ip + length (spelling i) ≤ 1048576 → ((k : ℕ) → k < length (spelling i) → slice_index s.memory (16 * s.cs + s.registers.ip + k) ≡ slice_index (spelling i) k) → (rest : List ℕ) × (fetched s ≡ spelling i ++ rest)
fetched_spells-linear s i short low e =
    fetched_spells s i (λ k lt. code_byte-linear s k (omega arith) (omega arith) ∙ e k lt)

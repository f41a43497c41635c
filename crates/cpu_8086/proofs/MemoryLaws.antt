-- What is read after a write.
use Rattle.std.proofs.Common.{refl, ap, ◌≡◌, ◌≢◌, ℕ, ◌+◌, ◌*◌, ◌/◌, ◌%◌, ◌<◌, List, length, ◌∙◌, arith}
use Rattle.std.specs.Prelude.{slice_index, slice_set}
use Rattle.std.proofs.lemmas.List.{get_or-set_same, get_or-set_other}
use Rattle.std.proofs.Math.ListN.{length-set}
use Rattle.cpu_8086.specs.State.{State}
use Rattle.cpu_8086.specs.Access.{Act, Done, Read, Write, Copy, ReadCodeSegment, FarCall, FarReturn, FarJump, PushCodeSegment, Interrupt, DivideFault, on_memory}
use Rattle.cpu_8086.specs.Memory.{address, next_offset, load_byte, store_byte, load_word, store_word}

pub address-lt : (segment offset : ℕ) → address segment offset < 1048576
address-lt segment offset = omega arith

-- the two bytes of a word stand apart
pub address-next : (segment offset : ℕ) → offset < 65536 → address segment offset ≢ address segment (next_offset offset)
address-next segment offset lt same = omega arith

pub length-store_byte : (m : List ℕ) (segment offset v : ℕ) → length (store_byte m segment offset v) ≡ length m
unfolding store_byte
length-store_byte m segment offset v = length-set m (address segment offset) v

pub length-store_word : (m : List ℕ) (segment offset v : ℕ) → length (store_word m segment offset v) ≡ length m
unfolding store_word
length-store_word m segment offset v = length-store_byte _ _ _ _ ∙ length-store_byte m segment offset _

pub load_byte-store_byte_same : (m : List ℕ) (segment offset v : ℕ) → length m ≡ 1048576 → load_byte (store_byte m segment offset v) segment offset ≡ v
unfolding load_byte store_byte
load_byte-store_byte_same m segment offset v size =
    let inside : address segment offset < length m = rw size (address-lt segment offset) in
    get_or-set_same m (address segment offset) v 0 inside

pub load_byte-store_byte_other : (m : List ℕ) (segment offset g o v : ℕ) → address g o ≢ address segment offset → load_byte (store_byte m segment offset v) g o ≡ load_byte m g o
unfolding load_byte store_byte
load_byte-store_byte_other m segment offset g o v apart = get_or-set_other m (address segment offset) (address g o) v 0 apart

pub load_byte-store_word_other : (m : List ℕ) (segment offset g o v : ℕ) → address g o ≢ address segment offset → address g o ≢ address segment (next_offset offset) → load_byte (store_word m segment offset v) g o ≡ load_byte m g o
unfolding store_word
load_byte-store_word_other m segment offset g o v low high =
    load_byte-store_byte_other _ segment (next_offset offset) g o _ high ∙ load_byte-store_byte_other m segment offset g o _ low

-- a word that was written is read back, also where it wraps at the segment's end
pub load_word-store_word_same : (m : List ℕ) (segment offset v : ℕ) → length m ≡ 1048576 → offset < 65536 → load_word (store_word m segment offset v) segment offset ≡ v
unfolding load_word store_word
load_word-store_word_same m segment offset v size lt =
    let low : load_byte (store_byte (store_byte m segment offset (v % 256)) segment (next_offset offset) (v / 256)) segment offset ≡ v % 256 =
    load_byte-store_byte_other (store_byte m segment offset (v % 256)) segment (next_offset offset) segment offset (v / 256) (address-next segment offset lt) ∙ load_byte-store_byte_same m segment offset (v % 256) size in
    let high : load_byte (store_byte (store_byte m segment offset (v % 256)) segment (next_offset offset) (v / 256)) segment (next_offset offset) ≡ v / 256 =
    load_byte-store_byte_same (store_byte m segment offset (v % 256)) segment (next_offset offset) (v / 256) (length-store_byte m segment offset (v % 256) ∙ size) in
    omega arith

-- two words that share no byte
pub record Apart (segment offset g o : ℕ) : Type 0 where
  pub low_low : address g o ≢ address segment offset
  pub low_high : address g o ≢ address segment (next_offset offset)
  pub high_low : address g (next_offset o) ≢ address segment offset
  pub high_high : address g (next_offset o) ≢ address segment (next_offset offset)

pub load_word-store_word_other : (m : List ℕ) (segment offset g o v : ℕ) → Apart segment offset g o → load_word (store_word m segment offset v) g o ≡ load_word m g o
unfolding load_word
load_word-store_word_other m segment offset g o v apart =
    let low = load_byte-store_word_other m segment offset g o v apart.low_low apart.low_high in
    let high = load_byte-store_word_other m segment offset g (next_offset o) v apart.high_low apart.high_high in
    cc

-- whatever an instruction does, memory keeps its length
pub length-on_memory : (s : State) (a : Act) (m : List ℕ) → length m ≡ length s.memory → length ((on_memory s a m).0.memory) ≡ length s.memory
length-on_memory s (Done g) m same = same
length-on_memory s (Read place next) m same = length-on_memory s (next (slice_index m place)) m same
length-on_memory s (Write place value next) m same = length-on_memory s next (slice_set m place value) (length-set m place value ∙ same)
length-on_memory s (Copy source target next) m same = length-on_memory s next (slice_set m target (slice_index m source)) (length-set m target (slice_index m source) ∙ same)
length-on_memory s (ReadCodeSegment next) m same = length-on_memory s (next s.cs) m same
length-on_memory s (FarCall g segment offset) m same = length-store_word _ _ _ _ ∙ length-store_word m _ _ _ ∙ same
length-on_memory s (FarReturn g dropped) m same = same
length-on_memory s (FarJump g segment offset) m same = same
length-on_memory s (PushCodeSegment g) m same = length-store_word m _ _ _ ∙ same
length-on_memory s (Interrupt g number) m same = same
length-on_memory s DivideFault m same = refl

-- where nothing wraps inside a word, its bytes lie side by side at its linear address
pub straight_load : (m : List ℕ) (segment offset : ℕ) → offset < 65535 → 16 * segment + offset < 1048575 → slice_index m (16 * segment + offset) + 256 * slice_index m (16 * segment + offset + 1) ≡ load_word m segment offset
unfolding load_word load_byte
straight_load m segment offset short low =
    let first : 16 * segment + offset ≡ address segment offset = omega arith in
    let second : 16 * segment + offset + 1 ≡ address segment (next_offset offset) = omega arith in
    ap (λ (k : ℕ). slice_index m k + 256 * slice_index m (16 * segment + offset + 1)) first ∙ ap (λ (k : ℕ). slice_index m (address segment offset) + 256 * slice_index m k) second

pub straight_store : (m : List ℕ) (segment offset v : ℕ) → offset < 65535 → 16 * segment + offset < 1048575 → slice_set (slice_set m (16 * segment + offset) (v % 256)) (16 * segment + offset + 1) (v / 256) ≡ store_word m segment offset v
unfolding store_word store_byte
straight_store m segment offset v short low =
    let first : 16 * segment + offset ≡ address segment offset = omega arith in
    let second : 16 * segment + offset + 1 ≡ address segment (next_offset offset) = omega arith in
    ap (λ (k : ℕ). slice_set (slice_set m k (v % 256)) (16 * segment + offset + 1) (v / 256)) first ∙ ap (λ (k : ℕ). slice_set (slice_set m (address segment offset) (v % 256)) k (v / 256)) second

-- Words on the stack: the arguments and locals of an activation, as its statements read and write them.
use Rattle.std.proofs.Common.{◌≡◌, ℕ, ◌+◌, ◌-◌, ◌*◌, ◌%◌, ◌≤◌, ◌<◌, ◌⊎◌, inl, inr, List, [], ◌∷◌, length, Ok, ℤ, pos, negsuc, refl, sym, ap, ◌∙◌, arith}
use Rattle.std.proofs.lemmas.Bool.Decides.{nat_tests}
use Rattle.common_values.specs.integers.Words.{w16, word_of, wrapping_add, low_byte, high_byte, word_from_bytes}
use Rattle.flat_code.specs.declared.tree.Address.{Address}
use Rattle.flat_code.specs.declared.tree.Address.TheVariants.{Local}
use Rattle.flat_code.specs.declared.tree.FlatOp.{FlatOp}
use Rattle.flat_code.specs.declared.memory.Cell.{Cell}
use Rattle.flat_code.specs.declared.memory.Cell.TheVariants.{Known, Unset, Outside}
use Rattle.flat_code.specs.declared.memory.Place.{Place}
use Rattle.flat_code.specs.Tree.{Expr, expr_size, Word, Op, StoreWord, Code, Do}
use Rattle.flat_code.specs.Memory.{Cells, Found, ◌>>=◌, address_of, byte_in, byte_at, word_at, bytes_at, put, if_inside, write, store_bytes, word_bytes, region, pushed}
use Rattle.flat_code.specs.Program.{Routine, FlatProgram, Choice}
use Rattle.flat_code.specs.Meaning.{Frame, State, and_then, with_found, set_cells, with_cells, begun, stored, stored_at, stack_place, value_of, op_of, activation_bytes, opened, closed, run}
use Rattle.flat_code.specs.Gives.{IsBelow}
use Rattle.flat_code.proofs.Nodes.{run-step}
use Rattle.flat_code.proofs.Shut.{put_other, region_below, region_above, region_in, pushed_below, pushed_above}

-- ---- words in memory

-- the bytes of a word stand from an address on
pub record HasWord (m : Cells) (a v : ℕ) : Type 0 where
  pub low : m a ≡ Known (low_byte v)
  pub high : m (a + 1) ≡ Known (high_byte v)
  pub small : v < 65536

abbrev pub with_word : Cells → ℕ → ℕ → Cells
with_word m a v = put (put m a (Known (low_byte v))) (a + 1) (Known (high_byte v))

put_same : (m : Cells) (a : ℕ) (c : Cell) → put m a c a ≡ c
put_same m a c = grind (arith, nat_tests)

pub word-other : (m : Cells) (a v x : ℕ) → (x ≡ a → ⊥) → (x ≡ a + 1 → ⊥) → with_word m a v x ≡ m x
word-other m a v x p q = put_other (put m a (Known (low_byte v))) (a + 1) (Known (high_byte v)) x q ∙ put_other m a (Known (low_byte v)) x p

pub word-written : (m : Cells) (a v : ℕ) → v < 65536 → HasWord (with_word m a v) a v
word-written m a v small =
    let n = put m a (Known (low_byte v)) in
    record {
      low = put_other n (a + 1) (Known (high_byte v)) a (λ e. omega (arith, e)) ∙ put_same m a (Known (low_byte v));
      high = put_same n (a + 1) (Known (high_byte v));
      small = small;
    }

pub word-kept : (m : Cells) (a v b w : ℕ) → (b + 1 < a) ⊎ (a + 1 < b) → HasWord m b w → HasWord (with_word m a v) b w
word-kept m a v b w (inl below) has = record {
  low = word-other m a v b (λ e. omega (arith, e, below)) (λ e. omega (arith, e, below)) ∙ has.low;
  high = word-other m a v (b + 1) (λ e. omega (arith, e, below)) (λ e. omega (arith, e, below)) ∙ has.high;
  small = has.small;
}
word-kept m a v b w (inr above) has = record {
  low = word-other m a v b (λ e. omega (arith, e, above)) (λ e. omega (arith, e, above)) ∙ has.low;
  high = word-other m a v (b + 1) (λ e. omega (arith, e, above)) (λ e. omega (arith, e, above)) ∙ has.high;
  small = has.small;
}

byte-known : (m : Cells) (p : Place) (i a b : ℕ) → address_of p i ≡ a → m a ≡ Known b → byte_at m p i ≡ Ok b
byte-known m p i a b e k = ap byte_in (ap m e ∙ k)

word_is : (v : ℕ) → v < 65536 → word_from_bytes (low_byte v) (high_byte v) ≡ v
word_is v small = omega arith

pub word-read : (m : Cells) (p : Place) (a v : ℕ) → address_of p 0 ≡ a → address_of p 1 ≡ a + 1 → HasWord m a v → word_at m p ≡ Ok v
word-read m p a v e g has =
    let low = byte-known m p 0 a (low_byte v) e has.low in
    let high = byte-known m p 1 (a + 1) (high_byte v) g has.high in
    ap (λ (x : Found ℕ). x >>= λ low. byte_at m p 1 >>= λ high. Ok (word_from_bytes low high)) low
    ∙ ap (λ (x : Found ℕ). x >>= λ high. Ok (word_from_bytes (low_byte v) high)) high
    ∙ ap (λ (n : ℕ). let r : Found ℕ = Ok n in r) (word_is v has.small)

-- two words that stand one after the other
pub words-read : (m : Cells) (p : Place) (a v w : ℕ) → address_of p 0 ≡ a → address_of p 1 ≡ a + 1 → address_of p 2 ≡ a + 2 → address_of p 3 ≡ a + 3 → HasWord m a v → HasWord m (a + 2) w →
    bytes_at m p 0 4 ≡ Ok (low_byte v ∷ high_byte v ∷ low_byte w ∷ high_byte w ∷ [])
words-read m p a v w e g h k first second =
    let last : address_of p 3 ≡ a + 2 + 1 = k ∙ omega arith in
    let b0 = byte-known m p 0 a (low_byte v) e first.low in
    let b1 = byte-known m p 1 (a + 1) (high_byte v) g first.high in
    let b2 = byte-known m p 2 (a + 2) (low_byte w) h second.low in
    let b3 = byte-known m p 3 (a + 2 + 1) (high_byte w) last second.high in
    ap (λ (x : Found ℕ). x >>= λ byte. bytes_at m p 1 3 >>= λ bytes. Ok (byte ∷ bytes)) b0
    ∙ ap (λ (x : Found ℕ). (x >>= λ byte. bytes_at m p 2 2 >>= λ bytes. Ok (byte ∷ bytes)) >>= λ bytes. Ok (low_byte v ∷ bytes)) b1
    ∙ ap (λ (x : Found ℕ). ((x >>= λ byte. bytes_at m p 3 1 >>= λ bytes. Ok (byte ∷ bytes)) >>= λ bytes. Ok (high_byte v ∷ bytes)) >>= λ bytes. Ok (low_byte v ∷ bytes)) b2
    ∙ ap (λ (x : Found ℕ). (((x >>= λ byte. bytes_at m p 4 0 >>= λ bytes. Ok (byte ∷ bytes)) >>= λ bytes. Ok (low_byte w ∷ bytes)) >>= λ bytes. Ok (high_byte v ∷ bytes)) >>= λ bytes. Ok (low_byte v ∷ bytes)) b3

inside-known : (cell : Cell) (m : Cells) → (cell ≡ Outside → ⊥) → if_inside cell m ≡ Ok m
inside-known (Known byte) m h = refl
inside-known Unset m h = refl
inside-known Outside m h = absurd (h refl)

pub word-stored : (m : Cells) (p : Place) (a v : ℕ) → address_of p 0 ≡ a → address_of p 1 ≡ a + 1 → (m a ≡ Outside → ⊥) → (m (a + 1) ≡ Outside → ⊥) → store_bytes m p 0 (word_bytes v) ≡ Ok (with_word m a v)
word-stored m p a v e g h k =
    let n = put m a (Known (low_byte v)) in
    let first : write m (address_of p 0) (Known (low_byte v)) ≡ Ok n = ap (λ x. write m x (Known (low_byte v))) e ∙ inside-known (m a) n h in
    let kept : n (a + 1) ≡ m (a + 1) = put_other m a (Known (low_byte v)) (a + 1) (λ e. omega (arith, e)) in
    let second : write n (address_of p 1) (Known (high_byte v)) ≡ Ok (with_word m a v) = ap (λ x. write n x (Known (high_byte v))) g ∙ inside-known (n (a + 1)) (with_word m a v) (λ out. k (sym kept ∙ out)) in
    ap (λ (x : Found Cells). x >>= λ m'. store_bytes m' p 1 (high_byte v ∷ [])) first
    ∙ ap (λ (x : Found Cells). x >>= λ m'. store_bytes m' p 2 []) second

-- ---- places in a frame

pub offset-above : (base d : ℕ) → base + d < 65536 → wrapping_add w16 base (word_of w16 (pos d)) ≡ base + d
offset-above base d p = omega arith

pub offset-below : (base d : ℕ) → d < base → base < 65536 → wrapping_add w16 base (word_of w16 (negsuc d)) ≡ base - (d + 1)
offset-below base d p q = omega arith

plain : (segment offset i o : ℕ) → offset ≡ o → o + i < 65536 → 16 * segment + (o + i) < 1048576 → (16 * segment + (offset + i) % 65536) % 1048576 ≡ 16 * segment + (o + i)
plain segment offset i o e p q = omega arith

-- what lies so far from BP has this offset, and so many bytes from it on are in the stack
pub record LiesAt (choice : Choice) (base : ℕ) (d : ℤ) (o bytes : ℕ) : Type 0 where
  pub offset_is : wrapping_add w16 base (word_of w16 d) ≡ o
  pub small : o + bytes ≤ 65536
  pub inside : 16 * choice.stack_segment + (o + bytes) ≤ 1048576

pub byte-lies : (choice : Choice) (base : ℕ) (d : ℤ) (o bytes i : ℕ) → LiesAt choice base d o bytes → i < bytes → address_of (stack_place choice base d) i ≡ 16 * choice.stack_segment + o + i
byte-lies choice base d o bytes i lies h =
    plain choice.stack_segment (wrapping_add w16 base (word_of w16 d)) i o lies.offset_is (omega (arith, lies.small, h)) (omega (arith, lies.inside, h)) ∙ omega arith

first-byte : (choice : Choice) (base : ℕ) (d : ℤ) (o bytes : ℕ) → LiesAt choice base d o bytes → 0 < bytes → address_of (stack_place choice base d) 0 ≡ 16 * choice.stack_segment + o
first-byte choice base d o bytes lies h = byte-lies choice base d o bytes 0 lies h ∙ omega arith

-- ---- expressions and statements

pub local-word : (choice : Choice) (f : Frame) (m : Cells) (d : ℤ) (o v : ℕ) → LiesAt choice f.bp d o 2 → HasWord m (16 * choice.stack_segment + o) v → value_of choice f m (Word (Local d)) ≡ Ok v
local-word choice f m d o v lies has =
    word-read m (stack_place choice f.bp d) (16 * choice.stack_segment + o) v (first-byte choice f.bp d o 2 lies (omega arith)) (byte-lies choice f.bp d o 2 1 lies (omega arith)) has

pub op-value : (choice : Choice) (f : Frame) (m : Cells) (op : FlatOp) (a b : Expr) (x y : ℕ) → value_of choice f m a ≡ Ok x → value_of choice f m b ≡ Ok y → value_of choice f m (Op op a b) ≡ op_of op x y
op-value choice f m op a b x y p q =
    ap (λ (found : Found ℕ). found >>= λ x. value_of choice f m b >>= λ y. op_of op x y) p ∙ ap (λ (found : Found ℕ). found >>= λ y. op_of op x y) q

pub local-stored : (choice : Choice) (f : Frame) (m : Cells) (d : ℤ) (o v : ℕ) → LiesAt choice f.bp d o 2 → (m (16 * choice.stack_segment + o) ≡ Outside → ⊥) → (m (16 * choice.stack_segment + o + 1) ≡ Outside → ⊥) →
    stored_at choice f m (Local d) (word_bytes v) ≡ Ok (with_word m (16 * choice.stack_segment + o) v)
local-stored choice f m d o v lies p q =
    word-stored m (stack_place choice f.bp d) (16 * choice.stack_segment + o) v (first-byte choice f.bp d o 2 lies (omega arith)) (byte-lies choice f.bp d o 2 1 lies (omega arith)) p q

pub word-step : (program : FlatProgram) (choice : Choice) (to : Address) (value : Expr) (next : Code) (f : Frame) (s : State) (v : ℕ) (m : Cells) → value_of choice f s.cells value ≡ Ok v → stored_at choice f s.cells to (word_bytes v) ≡ Ok m →
    run program choice (Do (StoreWord to value) next) f s ≡ run program choice next f (with_cells (begun (1 + expr_size value) s) m)
word-step program choice to value next f s v m p q =
    let t = begun (1 + expr_size value) s in
    run-step program choice (StoreWord to value) next f s
    ∙ ap (λ (found : Found ℕ). and_then (with_found found t (λ v. stored choice f to (word_bytes v) t)) (run program choice next f)) p
    ∙ ap (λ (found : Found Cells). and_then (with_found found t (set_cells t)) (run program choice next f)) q

-- ---- activations

-- the first argument stands at the top; the next ones follow downwards
pub first-argument : (m : Cells) (segment sp v : ℕ) (vs : List ℕ) → 2 + 2 * length vs ≤ sp → v < 65536 → HasWord (pushed m segment sp (v ∷ vs)) (16 * segment + (sp - 2)) v
first-argument m segment sp v vs room small =
    let a = 16 * segment + (sp - 2) in
    let b = 16 * segment + (sp - 1) in
    let next : a + 1 ≡ b = omega arith in
    let n = put m a (Known (low_byte v)) in
    let k = put n b (Known (high_byte v)) in
    record {
      low = pushed_above k segment (sp - 2) vs a (omega arith) (omega arith) ∙ put_other n b (Known (high_byte v)) a (λ e. omega (arith, e)) ∙ put_same m a (Known (low_byte v));
      high = pushed_above k segment (sp - 2) vs (a + 1) (omega arith) (omega arith) ∙ ap k next ∙ put_same n b (Known (high_byte v));
      small = small;
    }

pub word-above : (m : Cells) (segment low n : ℕ) (c : Cell) (a v : ℕ) → 16 * segment + low + n ≤ a → HasWord m a v → HasWord (region m segment low n c) a v
word-above m segment low n c a v h has = record {
  low = region_above m segment low n c a h ∙ has.low;
  high = region_above m segment low n c (a + 1) (omega arith) ∙ has.high;
  small = has.small;
}

pub local-unset : (m : Cells) (segment low n x : ℕ) → 16 * segment + low ≤ x → x < 16 * segment + low + n → region m segment low n Unset x ≡ Outside → ⊥
local-unset m segment low n x p q out = let e : Unset ≡ Outside = sym (region_in m segment low n Unset x p q) ∙ out in absurd (cc)

-- what is not below SP
pub not_below : (choice : Choice) (sp x : ℕ) → (IsBelow choice sp x → ⊥) → (x < 16 * choice.stack_segment) ⊎ (16 * choice.stack_segment + sp ≤ x)
not_below choice sp x h = grind (arith, nat_tests, h)

pub opened-keeps : (choice : Choice) (r : Routine) (f : Frame) (args : List ℕ) (m : Cells) (x : ℕ) → 2 * length args ≤ activation_bytes r → activation_bytes r ≤ f.sp → r.locals ≤ activation_bytes r → (x < 16 * choice.stack_segment) ⊎ (16 * choice.stack_segment + f.sp ≤ x) → opened choice r f args m x ≡ m x
opened-keeps choice r f args m x fits room locals (inl below) =
    let k = pushed m choice.stack_segment f.sp args in
    region_below k choice.stack_segment (f.sp - activation_bytes r) r.locals Unset x (omega arith) ∙ pushed_below m choice.stack_segment f.sp args x (omega arith) (omega arith)
opened-keeps choice r f args m x fits room locals (inr above) =
    let k = pushed m choice.stack_segment f.sp args in
    region_above k choice.stack_segment (f.sp - activation_bytes r) r.locals Unset x (omega arith) ∙ pushed_above m choice.stack_segment f.sp args x (omega arith) above

pub closed-keeps : (choice : Choice) (r : Routine) (f : Frame) (m : Cells) (x : ℕ) → activation_bytes r ≤ f.sp → (x < 16 * choice.stack_segment) ⊎ (16 * choice.stack_segment + f.sp ≤ x) → closed choice r f m x ≡ m x
closed-keeps choice r f m x room (inl below) = region_below m choice.stack_segment (f.sp - activation_bytes r) (activation_bytes r) Outside x (omega arith)
closed-keeps choice r f m x room (inr above) = region_above m choice.stack_segment (f.sp - activation_bytes r) (activation_bytes r) Outside x (omega arith)

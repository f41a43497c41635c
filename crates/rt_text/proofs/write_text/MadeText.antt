-- Texts that are made at the end of the item buffer.
use Rattle.std.proofs.Common.{◌≡◌, ℕ, zero, suc, ◌+◌, ◌<◌, ◌≤◌, Bool, true, List, [], ◌∷◌, length, get_or, Ok, Err, refl, sym, ap, subst, ◌∙◌, arith}
use Rattle.std.specs.Prelude.{nat_lt, if◌then◌else◌}
use Rattle.std.proofs.lemmas.Bool.Decides.{nat_tests}
use Rattle.std.proofs.lemmas.List.{length-replicate}
use Rattle.common_values.specs.integers.Words.{w16, wrapping_add, low_byte}
use Rattle.flat_code.specs.declared.memory.Place.{Place}
use Rattle.flat_code.specs.declared.memory.Cell.TheVariants.{Known, Outside}
use Rattle.flat_code.specs.declared.memory.Trap.TheVariants.{Bad}
use Rattle.flat_code.specs.Tree.{Expr, Number, Code}
use Rattle.flat_code.specs.Memory.{Cells, Found, address_of, place_after, put, laid}
use Rattle.flat_code.specs.Program.{FlatProgram, Choice, text_unit}
use Rattle.flat_code.specs.Meaning.{Frame}
use Rattle.flat_code.proofs.Shut.{put_other}
use Rattle.runtime_proofs.specs.routine_proofs.Activation.{Activation}
use Rattle.runtime_proofs.specs.routine_proofs.Straight.{seen_value, straight}
use Rattle.runtime_proofs.specs.strings_in_memory.Strings.{HasBytes, CanMove, place}
use Rattle.runtime_proofs.proofs.strings_in_memory.Cells.{store-so, bytes-kept, laid-other, laid-has}
use Rattle.runtime_proofs.proofs.string_loops.BackwardLoop.{reached-still}
use Rattle.runtime_proofs.proofs.string_loops.Bytes.{address-shift}
use Rattle.runtime_proofs.specs.text_memory.Data.{HasItem, HasText, blank_bytes, item_place}
use Rattle.runtime_proofs.specs.text_memory.Pieces.{item_at}
use Rattle.runtime_proofs.proofs.text_memory.Effects.{datum-place}
use Rattle.runtime_proofs.proofs.text_memory.Buffer.{laid-reached}
use Rattle.rt_text.specs.write_text.Routines.{set_item, set_items}
use Rattle.rt_text.specs.write_text.Specifications.{IsRoom}

-- each is a byte
abbrev pub Small : List ℕ → Type 0
Small [] = Unit {0}
Small (b ∷ bytes) = (b < 256) × Small bytes

small-at : (bytes : List ℕ) → Small bytes → (k : ℕ) → k < length bytes → get_or bytes k 0 < 256
small-at [] small k h = absurd (omega (arith, h))
small-at (b ∷ bytes) small zero h = small.0
small-at (b ∷ bytes) small (suc k) h = small-at bytes small.1 k (omega (arith, h))

number-so : (b : ℕ) → b < 256 → (let r : Found ℕ = if nat_lt b 65536 then Ok b else Err (Bad 1) in r ≡ Ok b)
number-so b h = ap (λ (t : Bool). let r : Found ℕ = if t then Ok b else Err (Bad 1) in r) (test b h)
  where
    test : (b : ℕ) → b < 256 → nat_lt b 65536 ≡ true
    test b h = grind (arith, nat_tests, h)

low-same : (b : ℕ) → b < 256 → low_byte b ≡ b
low-same b h = omega (arith, h)

-- the pointer to the byte before such a text
abbrev pub made_offset : ℕ → ℕ
made_offset item = wrapping_add w16 item 496

module _ (program : FlatProgram) (choice : Choice) (item ahead : ℕ) (there : HasText program choice item ahead) where
  abbrev ds : ℕ
  ds = choice.data_segment

  abbrev pub base : Place
  base = place ds (made_offset item)

  at-end : (i : ℕ) → address_of (place_after (place ds item) (496 + i)) 0 ≡ address_of base i
  at-end i = omega arith

  from-item : (i : ℕ) → address_of base i ≡ address_of (place ds item) (496 + i)
  from-item i = address-shift ds item 496 i

  ne-item : (i j : ℕ) → i < 512 → j < 512 → i < j → address_of (place ds item) i ≡ address_of (place ds item) j → ⊥
  ne-item i j p q h e = omega (arith, p, q, h, e)

  -- ---- stores

  module _ (own : Frame) (above : ℕ) (is_text : own.unit ≡ text_unit) where
    pub item-so : (i : ℕ) (value : Expr) (next : Code) (a : Activation) (v : ℕ) → i < 16 → seen_value choice own above a value ≡ Ok v → (a.memory (address_of base i) ≡ Outside → ⊥) →
        straight choice own above (set_item (496 + i) value next) a ≡ straight choice own above next (record a { memory = put a.memory (address_of base i) (Known (low_byte v)) })
    item-so i value next a v few e reached =
        store-so choice own above (item_at (496 + i)) value next a (place_after (place ds item) (496 + i)) v e (datum-place choice own above is_text a 0 item (496 + i) there.item_is) (λ out. reached (ap a.memory (sym (at-end i)) ∙ out))
        ∙ ap (λ x. straight choice own above next (record a { memory = put a.memory x (Known (low_byte v)) })) (at-end i)

    pub items-so : (bytes : List ℕ) (i : ℕ) (next : Code) (a : Activation) → Small bytes → i + length bytes ≤ 16 → ((j : ℕ) → j < 16 → a.memory (address_of base j) ≡ Outside → ⊥) →
        straight choice own above (set_items (496 + i) bytes next) a ≡ straight choice own above next (record a { memory = laid a.memory base i bytes })
    items-so [] i next a small few reached = refl
    items-so (b ∷ bytes) i next a small few reached =
        let m = put a.memory (address_of base i) (Known b) in
        let next_place : 496 + i + 1 ≡ 496 + (i + 1) = omega arith in
        item-so i (Number b) (set_items (496 + i + 1) bytes next) a b (omega (arith, few)) (number-so b small.0) (reached i (omega (arith, few)))
        ∙ ap (λ v. straight choice own above (set_items (496 + i + 1) bytes next) (record a { memory = put a.memory (address_of base i) (Known v) })) (low-same b small.0)
        ∙ ap (λ k. straight choice own above (set_items k bytes next) (record a { memory = m })) next_place
        ∙ items-so bytes (i + 1) next (record a { memory = m }) small.1 (omega (arith, few)) (λ j h. reached-still a.memory (address_of base i) b (address_of base j) (reached j h))

  -- ---- memory

  module _ (bytes : List ℕ) (small : Small bytes) (few : length bytes ≤ 11) (m : Cells) (buffer : HasItem choice item m) where
    abbrev pub made : Cells
    made = laid m base 1 bytes

    pub end-reached : (j : ℕ) → j < 16 → m (address_of base j) ≡ Outside → ⊥
    end-reached j h out = buffer.room (496 + j) (omega (arith, h)) (ap m (sym (from-item j)) ∙ out)

    pub made-has : HasBytes made base 1 bytes
    made-has = laid-has m ds (made_offset item) 1 bytes (omega (arith, few)) (small-at bytes small)

    pub made-buffer : HasItem choice item made
    made-buffer = record {
      blanks = bytes-kept m made (item_place choice item) 0 blank_bytes (λ k h. laid-other m base 1 bytes (address_of (item_place choice item) (0 + k))
          (λ i g e. let many = length-replicate {A = ℕ} 256 32 in ne-item (0 + k) (496 + (1 + i)) (omega (arith, h, many)) (omega (arith, g, few)) (omega (arith, h, many)) (e ∙ from-item (1 + i)))) buffer.blanks;
      room = λ i h. laid-reached m base 1 bytes (address_of (item_place choice item) i) (buffer.room i h);
    }

    pub made-others : (x : ℕ) → (IsRoom choice item x → ⊥) → made x ≡ m x
    made-others x free = laid-other m base 1 bytes x (λ i g e. let same : 496 + (1 + i) ≡ 256 + (241 + i) = omega arith in free (241 + i, omega (arith, g, few), e ∙ from-item (1 + i) ∙ ap (address_of (item_place choice item)) same))

    pub made-moves : CanMove (place ds (wrapping_add w16 item 255)) base (1 + length bytes)
    made-moves i j p q e = ne-item (255 + i) (496 + j) (omega (arith, p, q, few)) (omega (arith, q, few)) (omega (arith, p)) (sym (address-shift ds item 255 i) ∙ e ∙ from-item j)

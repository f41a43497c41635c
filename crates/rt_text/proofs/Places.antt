-- Where the data of the unit lie, by a legal choice.
use Rattle.std.proofs.Common.{◌≡◌, ℕ, ◌+◌, ◌*◌, ◌≤◌, ◌<◌, inl, inr, Option, Some, None, refl, arith}
use Rattle.std.specs.Prelude.{IsSome, ◌≢◌}
use Rattle.flat_code.specs.Memory.{address_of}
use Rattle.flat_code.specs.Program.{FlatProgram, Choice}
use Rattle.flat_code.specs.Meaning.{stack_top}
use Rattle.flat_code.specs.Legal.{Mention, ToDatum, TakesData, IsLegal}
use Rattle.runtime_proofs.specs.strings_in_memory.Strings.{IsOffStack, place}
use Rattle.runtime_proofs.specs.text_memory.Data.{item_key, ahead_key, item_datum, ahead_datum, HasText}
use Rattle.rt_text.specs.Unit.{text_code, HoldsTextUnit}

module _ (program : FlatProgram) (choice : Choice) (R : Mention → Type 0) (legal : IsLegal program choice R) (holds : HoldsTextUnit program) where
  some-offset : (o : Option ℕ) → IsSome o → (offset : ℕ) × (o ≡ Some offset)
  some-offset None h = absurd cc
  some-offset (Some offset) h = (offset, refl)

  -- an address in the data segment
  in-data : (offset i : ℕ) → offset + i < 65520 → 16 * choice.data_segment + (offset + i) < 1048576 → address_of (place choice.data_segment offset) i ≡ 16 * choice.data_segment + (offset + i)
  in-data offset i small inside = omega (arith, small, inside)

  off-stack : (offset size : ℕ) → offset + size ≤ legal.data_bytes → IsOffStack choice (stack_top program) (place choice.data_segment offset) size
  off-stack offset size within i h below =
      let at = in-data offset i (omega (arith, within, h, legal.data_small)) (omega (arith, within, h, legal.data_end)) in
      elim legal.data_stack [
        | inl low ↦ omega (arith, below.0, at, low, within, h)
        | inr high ↦ omega (arith, below.1, at, high)
      ]

  pub has-text : R (ToDatum item_key) → R (ToDatum ahead_key) → (item : ℕ) × (ahead : ℕ) × HasText program choice item ahead
  has-text first second =
      let one = some-offset (choice.datum item_key) ((legal.datum item_key).1 first) in
      let two = some-offset (choice.datum ahead_key) ((legal.datum ahead_key).1 second) in
      let item = one.0 in
      let ahead = two.0 in
      let takes_item : TakesData program choice (ToDatum item_key) item 512 = (text_code, item_datum, holds.is_there, refl, one.1, refl) in
      let takes_ahead : TakesData program choice (ToDatum ahead_key) ahead 2 = (text_code, ahead_datum, holds.is_there, refl, two.1, refl) in
      let in_item = legal.inside (ToDatum item_key) item 512 takes_item in
      let in_ahead = legal.inside (ToDatum ahead_key) ahead 2 takes_ahead in
      let differ : ToDatum item_key ≢ ToDatum ahead_key = λ e. cc in
      let apart = legal.apart (ToDatum item_key) (ToDatum ahead_key) item 512 ahead 2 differ takes_item takes_ahead in (
        item,
        ahead,
        record {
          item_is = one.1;
          ahead_is = two.1;
          item_small = omega (arith, in_item, legal.data_small);
          ahead_small = omega (arith, in_ahead, legal.data_small);
          segment = omega (arith, in_item, legal.data_end);
          item_off = off-stack item 512 in_item;
          ahead_off = off-stack ahead 2 in_ahead;
          apart = λ i j p q e.
              let x = in-data item i (omega (arith, in_item, p, legal.data_small)) (omega (arith, in_item, p, legal.data_end)) in
              let y = in-data ahead j (omega (arith, in_ahead, q, legal.data_small)) (omega (arith, in_ahead, q, legal.data_end)) in
              elim apart [ inl low ↦ omega (arith, low, x, y, e, p, q) | inr high ↦ omega (arith, high, x, y, e, p, q) ];
        },
      )

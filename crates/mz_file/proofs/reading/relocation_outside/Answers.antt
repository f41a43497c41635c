use Rattle.std.proofs.Common.{◌≡◌, ℕ, ◌+◌, ◌-◌, ◌*◌, ◌<◌, length, sym, ap₂, ◌∙◌, subst, All, arith}
use Rattle.cpu_8086.specs.declared.registers.Far.{Far}
use Rattle.mz_file.specs.Cause.{IsFirstOutside}
use Rattle.mz_file.specs.Format.{image_of, relocations_of, IsWithin}
use Rattle.mz_file.specs.Words.{word_at, far_at, fars_at}
use Rattle.mz_file.proofs.ReadLaws.{all_within, first_outside, length-image_of}
use Rattle.mz_file.proofs.reading.relocation_outside.Goals as goal

pub returns-then-size-far : goal.returns-then-size-far
returns-then-size-far c =
    let bytes = c.args.bytes.now in
    let number = c.loop-number.number in
    let size = c.size_said.result - 16 * c.word.result in
    let place = c.word-place.result in
    let size_is : size ≡ length (image_of bytes) =
    ap₂ (λ (said word : ℕ). said - 16 * word) c.size_said.ensures.said c.word.ensures ∙ sym (length-image_of bytes c.requires.long c.requires.pages) in
    let outside : size < 16 * (far_at bytes (place + 4 * number)).segment + (far_at bytes (place + 4 * number)).offset + 2 =
    subst (λ (far : Far). size < 16 * far.segment + far.offset + 2) c.far-far.ensures c.if-size-far.true in
    let first = first_outside bytes place c.word-number-end.result size number c.loop-number-test.true c.loop-number.invariant outside in
    subst (λ (size : ℕ). IsFirstOutside size (relocations_of bytes) number) size_is
    (subst (λ (place : ℕ). IsFirstOutside size (fars_at bytes place (word_at bytes 0x06)) number) c.word-place.ensures
    (subst (λ (count : ℕ). IsFirstOutside size (fars_at bytes place count) number) c.word-number-end.ensures first))

pub returns : goal.returns
returns c =
    let bytes = c.args.bytes.now in
    let size = c.size_said.result - 16 * c.word.result in
    let place = c.word-place.result in
    let size_is : size ≡ length (image_of bytes) =
    ap₂ (λ (said word : ℕ). said - 16 * word) c.size_said.ensures.said c.word.ensures ∙ sym (length-image_of bytes c.requires.long c.requires.pages) in
    let all = all_within bytes place c.word-number-end.result size (λ k below. c.loop-number.invariant k (omega (arith, c.loop-number-test.false))) in
    subst (λ (size : ℕ). All (IsWithin size) (relocations_of bytes)) size_is
    (subst (λ (place : ℕ). All (IsWithin size) (fars_at bytes place (word_at bytes 0x06))) c.word-place.ensures
    (subst (λ (count : ℕ). All (IsWithin size) (fars_at bytes place count)) c.word-number-end.ensures all))

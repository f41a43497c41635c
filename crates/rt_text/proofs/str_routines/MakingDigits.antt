-- The text of a number at the end of the item buffer.
use Rattle.std.proofs.Common.{◌≡◌, ℕ, ◌+◌, ◌-◌, ◌*◌, ◌<◌, ◌≤◌, inl, inr, List, [], ◌∷◌, length, decimal, Ok, negsuc, refl, sym, ap, subst, ◌∙◌, arith}
use Rattle.common_values.specs.integers.Words.{w16, wrapping_add, wrapping_sub, is_signed_less}
use Rattle.flat_code.specs.declared.tree.Address.TheVariants.{Through}
use Rattle.flat_code.specs.declared.tree.FlatOp.TheVariants as op
use Rattle.flat_code.specs.declared.memory.Place.{Place}
use Rattle.flat_code.specs.declared.memory.Cell.TheVariants.{Known, Outside}
use Rattle.flat_code.specs.Tree.{Number, Op, Code, End, Loop, ◌then◌}
use Rattle.flat_code.specs.Memory.{Cells, Found, ◌>>=◌, address_of, place_after, put}
use Rattle.flat_code.specs.Program.{FlatProgram, Choice, text_unit}
use Rattle.flat_code.specs.Meaning.{Frame, truth}
use Rattle.runtime_proofs.specs.routine_proofs.Activation.{Slot, Shut, Free, Holds, Activation, IsPlaced}
use Rattle.runtime_proofs.specs.routine_proofs.Straight.{Exit, Onward, Came, seen_value, continued, straight, code_size}
use Rattle.runtime_proofs.specs.routine_proofs.Comes.{Does}
use Rattle.runtime_proofs.proofs.routine_proofs.Replies.{taken-so}
use Rattle.runtime_proofs.proofs.routine_proofs.Doing.{weaker-does, then-does, straight-does}
use Rattle.runtime_proofs.specs.strings_in_memory.Strings.{place}
use Rattle.runtime_proofs.proofs.strings_in_memory.Cells.{store-so}
use Rattle.runtime_proofs.specs.string_loops.Pieces.{word, set_word, lessen}
use Rattle.runtime_proofs.specs.string_loops.Laid.{laid_back}
use Rattle.runtime_proofs.proofs.string_loops.Seen.{op-so, set-so}
use Rattle.runtime_proofs.proofs.string_loops.BackwardLoop.{laid_back-reached}
use Rattle.runtime_proofs.specs.text_memory.Data.{HasItem, HasText}
use Rattle.runtime_proofs.specs.text_memory.Pieces.{item_at, item_offset, set_segment}
use Rattle.runtime_proofs.proofs.text_memory.Effects.{datum-place, segment-does}
use Rattle.rt_text.proofs.write_text.MadeText.{Small}
use Rattle.rt_text.specs.write_numbers.Routines.{begin_words, begin_pointer, take_magnitude, digit_round, give_sign, end_digits, make_digits}
use Rattle.rt_text.specs.write_numbers.Specifications.{long_text}
use Rattle.rt_text.proofs.write_numbers.Digits.{sign-decided, positive-text, negative_low, negative_high, magnitude, negative-text}
use Rattle.rt_text.proofs.write_numbers.DigitLoop.{one-back, at-pointer}
use Rattle.rt_text.proofs.str_routines.WideDigits.{spelled}

module _ (program : FlatProgram) (choice : Choice) (own : Frame) (sp : ℕ) (is_placed : IsPlaced choice own sp 18) (is_text : own.unit ≡ text_unit) (item ahead : ℕ) (there : HasText program choice item ahead) (e : Activation) (ts t0 size w : ℕ) (m : Cells) (has_item : HasItem choice item m) (o : List ℕ) where
  abbrev ds : ℕ
  ds = choice.data_segment

  abbrev buffer : Place
  buffer = place ds item

  abbrev Goes : Code → ℕ → ℕ → Activation → Exit → Activation → Type 0
  Goes code turns work a exit b = Does program choice own sp code turns work a exit b

  -- words, as they come
  abbrev pub words : ℕ → ℕ → Slot → Slot → Slot → Slot → Slot → Cells → Activation
  words l h s f n d g k = record e { words = Holds ts ∷ Holds t0 ∷ Holds size ∷ Holds l ∷ Holds h ∷ Holds w ∷ Shut ∷ Shut ∷ Shut ∷ s ∷ f ∷ n ∷ d ∷ Free ∷ Free ∷ g ∷ Free ∷ Free ∷ []; memory = k; out = o }

  abbrev last : ℕ
  last = wrapping_add w16 item 507

  item-offset : (a : Activation) (plus : ℕ) → seen_value choice own 18 a (item_offset plus) ≡ Ok (wrapping_add w16 item plus)
  item-offset a plus = ap (λ (x : Found Place). let r : Found ℕ = x >>= λ p. Ok p.offset in r) (datum-place choice own 18 is_text a 0 item plus there.item_is)

  reached : (j : ℕ) → j ≤ 507 → m (address_of buffer j) ≡ Outside → ⊥
  reached j h out = has_item.room j (omega (arith, h)) out

  -- ---- the beginning

  begins : (l h : ℕ) → Goes (begin_words then begin_pointer) 0 16 (words l h Free Free Free Free Free m) Onward (words l h (Holds ds) (Holds last) (Holds 0) (Holds 0) (Holds (truth (is_signed_less w16 h 0))) m)
  begins l h =
      let g = truth (is_signed_less w16 h 0) in
      let a0 = words l h Free Free Free Free Free m in
      let a1 = words l h Free Free (Holds 0) (Holds 0) (Holds g) m in
      let a2 = words l h Free (Holds last) (Holds 0) (Holds 0) (Holds g) m in
      let a3 = words l h (Holds ds) (Holds last) (Holds 0) (Holds 0) (Holds g) m in
      let pointer = set_word (negsuc 3) (item_offset 507) End in
      weaker-does program choice own sp (begin_words then begin_pointer) 0 (code_size begin_words + (2 + 2)) 0 16 a0 Onward a3 (omega arith) (omega arith)
      (then-does program choice own sp begin_words begin_pointer 0 (code_size begin_words) (0 + 0) (2 + 2) a0 a1 Onward a3
      (straight-does program choice own sp 18 is_placed begin_words a0 Onward a1 refl)
      (then-does program choice own sp pointer (set_segment (negsuc 1) End) 0 2 0 2 a1 a2 Onward a3
      (straight-does program choice own sp 18 is_placed pointer a1 Onward a2 (set-so choice own 18 (negsuc 3) (item_offset 507) End a1 a2 last (item-offset a1 507) refl))
      (segment-does program choice own sp 18 is_placed a2 a3 (negsuc 1) (item_at 0) (place_after (place ds item) 0) (datum-place choice own 18 is_text a2 0 item 0 there.item_is) there.segment refl (record { flag = refl; input = refl; out = refl; err = refl }))))

  -- ---- how long the text is

  counts : (before n x y g : ℕ) (k : Cells) → before + n ≡ 507 → n ≤ 11 → Goes end_digits 0 4 (words 0 0 (Holds ds) (Holds (wrapping_add w16 item before)) (Holds x) (Holds y) (Holds g) k) Onward (words 0 0 (Holds ds) (Holds (wrapping_add w16 item before)) (Holds n) (Holds y) (Holds g) k)
  counts before n x y g k ends few =
      let from = wrapping_add w16 item before in
      let a0 = words 0 0 (Holds ds) (Holds from) (Holds x) (Holds y) (Holds g) k in
      let a1 = words 0 0 (Holds ds) (Holds from) (Holds n) (Holds y) (Holds g) k in
      let counted : wrapping_sub w16 last from ≡ n = omega (arith, ends, there.item_small) in
      straight-does program choice own sp 18 is_placed end_digits a0 Onward a1
      (set-so choice own 18 (negsuc 5) (Op op.Sub (item_offset 507) (word (negsuc 3))) End a0 a1 n (op-so choice own 18 op.Sub (item_offset 507) (word (negsuc 3)) a0 last from (item-offset a0 507) refl ∙ ap (λ v. let r : Found ℕ = Ok v in r) counted) refl)

  -- ---- the number

  pub record DigitsMade (l h : ℕ) : Type 0 where
    pub text : List ℕ
    pub before : ℕ
    pub y' : ℕ
    pub g' : ℕ
    pub text_is : text ≡ long_text l h
    pub small : Small text
    pub few : length text ≤ 11
    pub ends : before + length text ≡ 507
    pub does : Goes make_digits 10 800 (words l h Free Free Free Free Free m) Onward (words 0 0 (Holds ds) (Holds (wrapping_add w16 item before)) (Holds (length text)) (Holds y') (Holds g') (laid_back m buffer (before + 1) text))

  abbrev loop : Code
  loop = Loop digit_round End

  -- the digits of a magnitude stand there, and then the sign
  abbrev after_loop : ℕ → ℕ → ℕ → ℕ → Cells → Activation
  after_loop f x y g k = words 0 0 (Holds ds) (Holds f) (Holds x) (Holds y) (Holds g) k

  all-in-turn : (a0 a1 a2 a3 a4 a5 : Activation) → Goes (begin_words then begin_pointer) 0 16 a0 Onward a1 → Goes take_magnitude 0 (code_size take_magnitude) a1 Onward a2 → Goes loop 10 660 a2 Onward a3 → Goes give_sign 0 (code_size give_sign) a3 Onward a4 → Goes end_digits 0 4 a4 Onward a5 → Goes make_digits 10 800 a0 Onward a5
  all-in-turn a0 a1 a2 a3 a4 a5 first second third fourth fifth =
      let rest = then-does program choice own sp give_sign end_digits 0 (code_size give_sign) 0 4 a3 a4 Onward a5 fourth fifth in
      let more = then-does program choice own sp loop (give_sign then end_digits) 10 660 (0 + 0) (code_size give_sign + 4) a2 a3 Onward a5 third rest in
      let most = then-does program choice own sp take_magnitude (loop then (give_sign then end_digits)) 0 (code_size take_magnitude) (10 + (0 + 0)) (660 + (code_size give_sign + 4)) a1 a2 Onward a5 second more in
      weaker-does program choice own sp make_digits (0 + (0 + (10 + (0 + 0)))) (16 + (code_size take_magnitude + (660 + (code_size give_sign + 4)))) 10 800 a0 Onward a5 (omega arith) (omega arith)
      (then-does program choice own sp (begin_words then begin_pointer) (take_magnitude then (loop then (give_sign then end_digits))) 0 16 (0 + (10 + (0 + 0))) (code_size take_magnitude + (660 + (code_size give_sign + 4))) a0 a1 Onward a5 first most)

  positive : (l h : ℕ) → l < 65536 → h < 32768 → truth (is_signed_less w16 h 0) ≡ 0 → DigitsMade l h
  positive l h p q t =
      let n = l + 65536 * h in
      let r = spelled program choice own sp is_placed item e ts t0 size w 0 o 9 n l h 506 0 0 m refl (omega (arith, p, q)) p (omega (arith, p, q)) (omega arith) (λ j s. reached j (omega (arith, s))) in
      let starts = r.starts in
      let few = r.few in
      let a0 = words l h Free Free Free Free Free m in
      let a1 = words l h (Holds ds) (Holds last) (Holds 0) (Holds 0) (Holds 0) m in
      let k = laid_back m buffer (r.before + 1) (decimal n) in
      let a2 = after_loop (wrapping_add w16 item r.before) r.x' r.y' 0 k in
      let a3 = after_loop (wrapping_add w16 item r.before) (length (decimal n)) r.y' 0 k in
      let first = subst (λ g. Goes (begin_words then begin_pointer) 0 16 a0 Onward (words l h (Holds ds) (Holds last) (Holds 0) (Holds 0) (Holds g) m)) t (begins l h) in
      let second = straight-does program choice own sp 18 is_placed take_magnitude a1 Onward a1 refl in
      let third = straight-does program choice own sp 18 is_placed give_sign a2 Onward a2 refl in
      record {
        text = decimal n;
        before = r.before;
        y' = r.y';
        g' = 0;
        text_is = positive-text l h p q;
        small = r.small;
        few = omega (arith, few);
        ends = omega (arith, starts);
        does = all-in-turn a0 a1 a1 a2 a2 a3 first second r.does third (counts r.before (length (decimal n)) r.x' r.y' 0 k (omega (arith, starts)) (omega (arith, few)));
      }

  -- the sign goes before the digits
  signed-so : (back x y : ℕ) (text : List ℕ) → back < 506 → straight choice own 18 give_sign (after_loop (wrapping_add w16 item (back + 1)) x y 1 (laid_back m buffer (back + 1 + 1) text)) ≡ Ok (record { exit = Onward; there = after_loop (wrapping_add w16 item back) x y 1 (laid_back m buffer (back + 1) (45 ∷ text)) })
  signed-so back x y text low =
      let k = laid_back m buffer (back + 1 + 1) text in
      let a = after_loop (wrapping_add w16 item (back + 1)) x y 1 k in
      let b = after_loop (wrapping_add w16 item back) x y 1 (laid_back m buffer (back + 1) (45 ∷ text)) in
      let before = lessen (negsuc 3) (Number 1) End in
      let place_is = at-pointer ds item (back + 1) in
      taken-so choice own 18 give_sign a 1 (record { exit = Onward; there = b }) refl (λ z. omega (arith, z))
      (ap (λ (r : Found Came). r >>= λ c. continued c.exit c.there (straight choice own 18 End))
      (store-so choice own 18 (Through (negsuc 3) 0) (Number 45) before a (place_after (place ds (wrapping_add w16 item (back + 1))) 0) 45 refl refl (λ out. laid_back-reached m buffer (back + 1 + 1) text (address_of buffer (back + 1)) (reached (back + 1) (omega (arith, low))) (ap k (sym place_is) ∙ out))
      ∙ ap (λ z. straight choice own 18 before (after_loop (wrapping_add w16 item (back + 1)) x y 1 (put k z (Known 45)))) place_is
      ∙ ap (λ f. straight choice own 18 End (after_loop f x y 1 (put k (address_of buffer (back + 1)) (Known 45)))) (one-back item back)))

  signed-does : (before back x y : ℕ) (text : List ℕ) → back + 1 ≡ before → before < 507 → Goes give_sign 0 (code_size give_sign) (after_loop (wrapping_add w16 item before) x y 1 (laid_back m buffer (before + 1) text)) Onward (after_loop (wrapping_add w16 item back) x y 1 (laid_back m buffer (back + 1) (45 ∷ text)))
  signed-does before back x y text is low =
      subst (λ j. Goes give_sign 0 (code_size give_sign) (after_loop (wrapping_add w16 item j) x y 1 (laid_back m buffer (j + 1) text)) Onward (after_loop (wrapping_add w16 item back) x y 1 (laid_back m buffer (back + 1) (45 ∷ text)))) is
      (straight-does program choice own sp 18 is_placed give_sign (after_loop (wrapping_add w16 item (back + 1)) x y 1 (laid_back m buffer (back + 1 + 1) text)) Onward (after_loop (wrapping_add w16 item back) x y 1 (laid_back m buffer (back + 1) (45 ∷ text))) (signed-so back x y text (omega (arith, is, low))))

  negative : (l h : ℕ) → l < 65536 → h < 65536 → 32768 ≤ h → truth (is_signed_less w16 h 0) ≡ 1 → DigitsMade l h
  negative l h p q low t =
      let l1 = negative_low l in
      let h1 = negative_high l h in
      let n = l1 + 65536 * h1 in
      let is = magnitude l h p q low in
      let bound : n < 4294967296 = omega (arith, is, low) in
      let r = spelled program choice own sp is_placed item e ts t0 size w 1 o 9 n l1 h1 506 0 0 m refl bound (omega arith) (omega (arith, bound)) (omega arith) (λ j s. reached j (omega (arith, s))) in
      let starts = r.starts in
      let few = r.few in
      let some = r.some in
      let back = r.before - 1 in
      let here : back + 1 ≡ r.before = omega (arith, starts, few) in
      let text = 45 ∷ decimal n in
      let k = laid_back m buffer (back + 1) text in
      let a0 = words l h Free Free Free Free Free m in
      let a1 = words l h (Holds ds) (Holds last) (Holds 0) (Holds 0) (Holds 1) m in
      let a2 = words l1 h1 (Holds ds) (Holds last) (Holds 0) (Holds 0) (Holds 1) m in
      let a3 = after_loop (wrapping_add w16 item r.before) r.x' r.y' 1 (laid_back m buffer (r.before + 1) (decimal n)) in
      let a4 = after_loop (wrapping_add w16 item back) r.x' r.y' 1 k in
      let a5 = after_loop (wrapping_add w16 item back) (length text) r.y' 1 k in
      let first = subst (λ g. Goes (begin_words then begin_pointer) 0 16 a0 Onward (words l h (Holds ds) (Holds last) (Holds 0) (Holds 0) (Holds g) m)) t (begins l h) in
      let second = straight-does program choice own sp 18 is_placed take_magnitude a1 Onward a2 refl in
      record {
        text = text;
        before = back;
        y' = r.y';
        g' = 1;
        text_is = negative-text l h n p q low is;
        small = (omega arith, r.small);
        few = omega (arith, few);
        ends = omega (arith, starts, here);
        does = all-in-turn a0 a1 a2 a3 a4 a5 first second r.does (signed-does r.before back r.x' r.y' (decimal n) here (omega (arith, starts, some))) (counts back (length text) r.x' r.y' 1 k (omega (arith, starts, here)) (omega (arith, few)));
      }

  pub digits-made : (l h : ℕ) → l < 65536 → h < 65536 → DigitsMade l h
  digits-made l h p q = elim (sign-decided h q) [ inl k ↦ positive l h p k.0 k.1 | inr k ↦ negative l h p q k.0 k.1 ]

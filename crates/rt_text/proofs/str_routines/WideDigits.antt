-- The loop that makes the digits of a number, in an activation that has three more words of arguments above the number and two of locals below.
use Rattle.std.proofs.Common.{◌≡◌, ℕ, zero, suc, ◌+◌, ◌-◌, ◌*◌, ◌/◌, ◌%◌, ◌<◌, ◌≤◌, ◌⊎◌, inl, inr, List, [], ◌∷◌, ◌++◌, length, decimal, Ok, negsuc, refl, sym, ap, subst, ◌∙◌, arith, length-append}
use Rattle.std.specs.Prelude.{◌==◌, ◌&&◌, bit_and}
use Rattle.common_values.specs.integers.Words.{w16, wrapping_add}
use Rattle.flat_code.specs.declared.tree.Address.TheVariants.{Through}
use Rattle.flat_code.specs.declared.tree.FlatOp.TheVariants as op
use Rattle.flat_code.specs.declared.memory.Place.{Place}
use Rattle.flat_code.specs.declared.memory.Cell.TheVariants.{Known, Outside}
use Rattle.flat_code.specs.Tree.{Number, Op, End, Loop}
use Rattle.flat_code.specs.Memory.{Cells, address_of, place_after, put}
use Rattle.flat_code.specs.Program.{FlatProgram, Choice}
use Rattle.flat_code.specs.Meaning.{Frame, truth}
use Rattle.runtime_proofs.specs.routine_proofs.Activation.{Shut, Free, Holds, Activation, IsPlaced}
use Rattle.runtime_proofs.specs.routine_proofs.Straight.{Onward, Leaving, straight, code_size}
use Rattle.runtime_proofs.specs.routine_proofs.Comes.{Does}
use Rattle.runtime_proofs.proofs.routine_proofs.Replies.{taken-so, other-so}
use Rattle.runtime_proofs.proofs.routine_proofs.Doing.{weaker-does, straight-does, round-does, leave-does}
use Rattle.runtime_proofs.specs.strings_in_memory.Strings.{place}
use Rattle.runtime_proofs.proofs.strings_in_memory.Cells.{store-so}
use Rattle.runtime_proofs.specs.string_loops.Pieces.{word, lessen}
use Rattle.runtime_proofs.specs.string_loops.Laid.{laid_back}
use Rattle.runtime_proofs.proofs.string_loops.BackwardLoop.{reached-still}
use Rattle.rt_text.proofs.write_text.MadeText.{Small}
use Rattle.rt_text.specs.write_numbers.Routines.{rest_10, stop_at_zero, digit_round}
use Rattle.rt_text.proofs.write_numbers.DigitLoop.{one-back, at-pointer}
use Rattle.rt_text.proofs.write_numbers.Digits.{first_dividend, second_dividend, low_quotient, digit_byte, divided, both-bits, zero-decided, small-append, laid_back-last, tens, last-digit, more-digits}

module _ (program : FlatProgram) (choice : Choice) (own : Frame) (sp : ℕ) (is_placed : IsPlaced choice own sp 18) (item : ℕ) (e : Activation) (ts t0 size w sign : ℕ) (o : List ℕ) where
  abbrev ds : ℕ
  ds = choice.data_segment

  abbrev buffer : Place
  buffer = place ds item

  -- the number's words, the pointer, two dividends, and memory
  abbrev pub digits : ℕ → ℕ → ℕ → ℕ → ℕ → Cells → Activation
  digits l h f x y m = record e { words = Holds ts ∷ Holds t0 ∷ Holds size ∷ Holds l ∷ Holds h ∷ Holds w ∷ Shut ∷ Shut ∷ Shut ∷ Holds ds ∷ Holds f ∷ Holds x ∷ Holds y ∷ Free ∷ Free ∷ Holds sign ∷ Free ∷ Free ∷ []; memory = m; out = o }

  -- where a digit stands at the i-th byte of the buffer behind the first
  module _ (l h i x y : ℕ) (m : Cells) (p : l < 65536) (reached : m (address_of buffer (i + 1)) ≡ Outside → ⊥) where
    abbrev n : ℕ
    n = l + 65536 * h

    abbrev l' : ℕ
    l' = low_quotient l h

    abbrev h' : ℕ
    h' = h / 10

    abbrev m' : Cells
    m' = put m (address_of buffer (i + 1)) (Known (48 + n % 10))

    abbrev a : Activation
    a = digits l h (wrapping_add w16 item (i + 1)) x y m

    abbrev a1 : Activation
    a1 = digits l' h' (wrapping_add w16 item (i + 1)) (second_dividend l h) (first_dividend l h) m

    abbrev b : Activation
    b = digits l' h' (wrapping_add w16 item i) (second_dividend l h) (first_dividend l h) m'

    stored : straight choice own 18 digit_round a ≡ straight choice own 18 stop_at_zero b
    stored =
        let next = lessen (negsuc 3) (Number 1) stop_at_zero in
        let is = divided l h p in
        let there = at-pointer ds item (i + 1) in
        store-so choice own 18 (Through (negsuc 3) 0) (Op op.Add (Number 48) (rest_10 (word (negsuc 5)))) next a1 (place_after (place ds (wrapping_add w16 item (i + 1))) 0) (wrapping_add w16 48 (second_dividend l h % 10)) refl refl (λ out. reached (ap m (sym there) ∙ out))
        ∙ ap (λ z. straight choice own 18 next (digits l' h' (wrapping_add w16 item (i + 1)) (second_dividend l h) (first_dividend l h) (put m z (Known (digit_byte l h))))) there
        ∙ ap (λ v. straight choice own 18 next (digits l' h' (wrapping_add w16 item (i + 1)) (second_dividend l h) (first_dividend l h) (put m (address_of buffer (i + 1)) (Known v)))) is.digit
        ∙ ap (λ f. straight choice own 18 stop_at_zero (digits l' h' f (second_dividend l h) (first_dividend l h) m')) (one-back item i)

    last-round : l' ≡ 0 → h' ≡ 0 → truth ((l' == 0) && (h' == 0)) ≡ 1 → Does program choice own sp digit_round 0 64 a (Leaving 0) (digits 0 0 (wrapping_add w16 item i) (second_dividend l h) (first_dividend l h) m')
    last-round p q t =
        let c = digits 0 0 (wrapping_add w16 item i) (second_dividend l h) (first_dividend l h) m' in
        let ends : straight choice own 18 stop_at_zero b ≡ Ok (record { exit = Leaving 0; there = b }) = taken-so choice own 18 stop_at_zero b (bit_and (truth (l' == 0)) (truth (h' == 0))) (record { exit = Leaving 0; there = b }) refl (λ z. let one = sym t ∙ sym (both-bits (l' == 0) (h' == 0)) ∙ z in omega (arith, one)) refl in
        let low : b ≡ digits 0 h' (wrapping_add w16 item i) (second_dividend l h) (first_dividend l h) m' = ap (λ v. digits v h' (wrapping_add w16 item i) (second_dividend l h) (first_dividend l h) m') p in
        let high : digits 0 h' (wrapping_add w16 item i) (second_dividend l h) (first_dividend l h) m' ≡ c = ap (λ v. digits 0 v (wrapping_add w16 item i) (second_dividend l h) (first_dividend l h) m') q in
        subst (λ (k : Activation). Does program choice own sp digit_round 0 64 a (Leaving 0) k) (low ∙ high)
        (weaker-does program choice own sp digit_round 0 (code_size digit_round) 0 64 a (Leaving 0) b (omega arith) (omega arith)
        (straight-does program choice own sp 18 is_placed digit_round a (Leaving 0) b (stored ∙ ends)))

    next-round : truth ((l' == 0) && (h' == 0)) ≡ 0 → Does program choice own sp digit_round 0 64 a Onward b
    next-round t =
        let goes : straight choice own 18 stop_at_zero b ≡ Ok (record { exit = Onward; there = b }) = other-so choice own 18 stop_at_zero b (bit_and (truth (l' == 0)) (truth (h' == 0))) (record { exit = Onward; there = b }) refl (both-bits (l' == 0) (h' == 0) ∙ t) refl in
        weaker-does program choice own sp digit_round 0 (code_size digit_round) 0 64 a Onward b (omega arith) (omega arith)
        (straight-does program choice own sp 18 is_placed digit_round a Onward b (stored ∙ goes))

  -- the next number is 0, or not
  abbrev Decided : ℕ → ℕ → Type 0
  Decided l h = ((low_quotient l h ≡ 0) × (h / 10 ≡ 0) × (truth ((low_quotient l h == 0) && (h / 10 == 0)) ≡ 1)) ⊎ ((0 < low_quotient l h + 65536 * (h / 10)) × (truth ((low_quotient l h == 0) && (h / 10 == 0)) ≡ 0))

  -- all digits of a number
  pub record Spelled (n l h i x y : ℕ) (m : Cells) (k : ℕ) : Type 0 where
    pub before : ℕ
    pub x' : ℕ
    pub y' : ℕ
    pub small : Small (decimal n)
    pub few : length (decimal n) ≤ suc k
    pub some : 0 < length (decimal n)
    pub starts : before + length (decimal n) ≡ i + 1
    pub does : Does program choice own sp (Loop digit_round End) (suc k) (66 * suc k) (digits l h (wrapping_add w16 item (i + 1)) x y m) Onward (digits 0 0 (wrapping_add w16 item before) x' y' (laid_back m buffer (before + 1) (decimal n)))

  spelled-last : (n l h i x y : ℕ) (m : Cells) (k : ℕ) → n ≡ l + 65536 * h → l < 65536 → (m (address_of buffer (i + 1)) ≡ Outside → ⊥) → low_quotient l h ≡ 0 → h / 10 ≡ 0 → truth ((low_quotient l h == 0) && (h / 10 == 0)) ≡ 1 → Spelled n l h i x y m k
  spelled-last n l h i x y m k is p reached zl zh t =
      let quotient = (divided l h p).quotient in
      let none : n / 10 ≡ 0 = omega (arith, is, quotient, zl, zh) in
      let text : decimal n ≡ (48 + (l + 65536 * h) % 10) ∷ [] = last-digit n none ∙ ap (λ v. (48 + v % 10) ∷ []) is in
      record {
        before = i;
        x' = second_dividend l h;
        y' = first_dividend l h;
        small = subst Small (sym text) (omega arith, tt);
        few = subst (λ t. length t ≤ suc k) (sym text) (omega arith);
        some = subst (λ t. 0 < length t) (sym text) (omega arith);
        starts = ap (λ t. i + length t) text;
        does = subst (λ t. Does program choice own sp (Loop digit_round End) (suc k) (66 * suc k) (digits l h (wrapping_add w16 item (i + 1)) x y m) Onward (digits 0 0 (wrapping_add w16 item i) (second_dividend l h) (first_dividend l h) (laid_back m buffer (i + 1) t))) (sym text)
            (weaker-does program choice own sp (Loop digit_round End) (1 + 0) (2 + 64) (suc k) (66 * suc k) (digits l h (wrapping_add w16 item (i + 1)) x y m) Onward (digits 0 0 (wrapping_add w16 item i) (second_dividend l h) (first_dividend l h) (put m (address_of buffer (i + 1)) (Known (48 + (l + 65536 * h) % 10)))) (omega arith) (omega arith)
            (leave-does program choice own sp digit_round 0 64 (digits l h (wrapping_add w16 item (i + 1)) x y m) (Leaving 0) Onward (digits 0 0 (wrapping_add w16 item i) (second_dividend l h) (first_dividend l h) (put m (address_of buffer (i + 1)) (Known (48 + (l + 65536 * h) % 10)))) refl (last-round l h i x y m p reached zl zh t)));
      }

  -- one digit, and those before it
  spelled-more : (n l h i x y : ℕ) (m : Cells) (k : ℕ) → n ≡ l + 65536 * h → n < 4294967296 → l < 65536 → (m (address_of buffer (suc i + 1)) ≡ Outside → ⊥) → 0 < n / 10 → truth ((low_quotient l h == 0) && (h / 10 == 0)) ≡ 0 →
      Spelled (n / 10) (low_quotient l h) (h / 10) i (second_dividend l h) (first_dividend l h) (put m (address_of buffer (suc i + 1)) (Known (48 + (l + 65536 * h) % 10))) k → Spelled n l h (suc i) x y m (suc k)
  spelled-more n l h i x y m k is bound p reached some t r =
      let d = 48 + (l + 65536 * h) % 10 in
      let xs = decimal (n / 10) in
      let text : decimal n ≡ xs ++ d ∷ [] = more-digits n some bound ∙ ap (λ v. xs ++ (48 + v % 10) ∷ []) is in
      let long : length (xs ++ d ∷ []) ≡ length xs + 1 = length-append xs (d ∷ []) in
      let starts = r.starts in
      let few = r.few in
      let at_end : r.before + 1 + length xs ≡ suc i + 1 = omega (arith, starts) in
      let there : suc i ≡ i + 1 = omega arith in
      let memory : laid_back (put m (address_of buffer (suc i + 1)) (Known d)) buffer (r.before + 1) xs ≡ laid_back m buffer (r.before + 1) (decimal n) =
      ap (λ j. laid_back (put m (address_of buffer j) (Known d)) buffer (r.before + 1) xs) (sym at_end) ∙ sym (laid_back-last m buffer (r.before + 1) xs d) ∙ ap (laid_back m buffer (r.before + 1)) (sym text) in
      let m1 = put m (address_of buffer (suc i + 1)) (Known d) in
      let start = digits l h (wrapping_add w16 item (suc i + 1)) x y m in
      let middle = digits (low_quotient l h) (h / 10) (wrapping_add w16 item (i + 1)) (second_dividend l h) (first_dividend l h) m1 in
      let ending = digits 0 0 (wrapping_add w16 item r.before) r.x' r.y' (laid_back m1 buffer (r.before + 1) xs) in
      let first = subst (λ j. Does program choice own sp digit_round 0 64 start Onward (digits (low_quotient l h) (h / 10) (wrapping_add w16 item j) (second_dividend l h) (first_dividend l h) m1)) there (next-round l h (suc i) x y m p reached t) in
      record {
        before = r.before;
        x' = r.x';
        y' = r.y';
        small = subst Small (sym text) (small-append xs d r.small (omega arith));
        few = subst (λ t. length t ≤ suc (suc k)) (sym text) (omega (arith, long, few));
        some = subst (λ t. 0 < length t) (sym text) (omega (arith, long));
        starts = ap (λ t. r.before + length t) text ∙ omega (arith, long, starts);
        does = subst (λ c. Does program choice own sp (Loop digit_round End) (suc (suc k)) (66 * suc (suc k)) start Onward (digits 0 0 (wrapping_add w16 item r.before) r.x' r.y' c)) memory
            (weaker-does program choice own sp (Loop digit_round End) (1 + 0 + suc k) (2 + 64 + 66 * suc k) (suc (suc k)) (66 * suc (suc k)) start Onward ending (omega arith) (omega arith)
            (round-does program choice own sp digit_round 0 64 (suc k) (66 * suc k) start middle Onward ending first r.does));
      }

  -- a number below so many tens
  pub spelled : (k n l h i x y : ℕ) (m : Cells) → n ≡ l + 65536 * h → n < 4294967296 → l < 65536 → n < tens (suc k) → k ≤ i → ((j : ℕ) → j ≤ i + 1 → m (address_of buffer j) ≡ Outside → ⊥) → Spelled n l h i x y m k
  spelled zero n l h i x y m is bound p tenth room reached = by (zero-decided (low_quotient l h) (h / 10))
    where
      by : Decided l h → Spelled n l h i x y m zero
      by (inl z) = spelled-last n l h i x y m zero is p (reached (i + 1) (omega arith)) z.0 z.1 z.2
      by (inr z) = let quotient = (divided l h p).quotient in absurd (omega (arith, is, quotient, z.0, tenth))
  spelled (suc k) n l h zero x y m is bound p tenth room reached = absurd (omega (arith, room))
  spelled (suc k) n l h (suc i) x y m is bound p tenth room reached =
      by (zero-decided (low_quotient l h) (h / 10))
      (λ next. spelled k (n / 10) (low_quotient l h) (h / 10) i (second_dividend l h) (first_dividend l h) (put m (address_of buffer (suc i + 1)) (Known (48 + (l + 65536 * h) % 10))) next (omega (arith, bound)) (divided l h p).small (omega (arith, tenth)) (omega (arith, room))
      (λ j q. reached-still m (address_of buffer (suc i + 1)) (48 + (l + 65536 * h) % 10) (address_of buffer j) (reached j (omega (arith, q)))))
    where
      by : Decided l h → (n / 10 ≡ low_quotient l h + 65536 * (h / 10) → Spelled (n / 10) (low_quotient l h) (h / 10) i (second_dividend l h) (first_dividend l h) (put m (address_of buffer (suc i + 1)) (Known (48 + (l + 65536 * h) % 10))) k) → Spelled n l h (suc i) x y m (suc k)
      by (inl z) more = spelled-last n l h (suc i) x y m (suc k) is p (reached (suc i + 1) (omega arith)) z.0 z.1 z.2
      by (inr z) more =
          let quotient = (divided l h p).quotient in
          let next : n / 10 ≡ low_quotient l h + 65536 * (h / 10) = omega (arith, is, quotient) in
          spelled-more n l h i x y m k is bound p (reached (suc i + 1) (omega arith)) (omega (arith, next, z.0)) z.1 (more next)

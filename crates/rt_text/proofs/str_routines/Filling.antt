-- The variable is filled: its length, blanks, and bytes of the text behind them.
use Rattle.std.proofs.Common.{◌≡◌, ℕ, ◌+◌, ◌-◌, ◌*◌, ◌<◌, List, [], ◌∷◌, length, Ok, pos, negsuc, refl, sym, ap, subst, ◌∙◌, arith}
use Rattle.common_values.specs.integers.Words.{w16, wrapping_add, low_byte}
use Rattle.flat_code.specs.declared.tree.Address.TheVariants.{Through}
use Rattle.flat_code.specs.declared.tree.FlatOp.TheVariants as op
use Rattle.flat_code.specs.declared.memory.Place.{Place}
use Rattle.flat_code.specs.declared.memory.Cell.TheVariants.{Known, Outside}
use Rattle.flat_code.specs.Tree.{Op, Code, End, ◌then◌}
use Rattle.flat_code.specs.Memory.{Cells, Found, ◌>>=◌, address_of, place_after, put, laid}
use Rattle.flat_code.specs.Program.{FlatProgram, Choice, text_unit}
use Rattle.flat_code.specs.Meaning.{Frame}
use Rattle.runtime_proofs.specs.routine_proofs.Activation.{Slot, Shut, Free, Holds, Activation, IsPlaced}
use Rattle.runtime_proofs.specs.routine_proofs.Straight.{Exit, Onward, seen_value, straight, code_size}
use Rattle.runtime_proofs.specs.routine_proofs.Comes.{Does}
use Rattle.runtime_proofs.proofs.routine_proofs.Doing.{weaker-does, then-does, straight-does}
use Rattle.runtime_proofs.specs.strings_in_memory.Strings.{HasBytes, IsReached, CanMove, place}
use Rattle.runtime_proofs.proofs.strings_in_memory.Cells.{store-so, plus-none}
use Rattle.runtime_proofs.specs.string_loops.Pieces.{word, set_word}
use Rattle.runtime_proofs.proofs.string_loops.Seen.{set-so}
use Rattle.runtime_proofs.proofs.string_loops.ForwardLoop.{Moving, forward-does}
use Rattle.runtime_proofs.specs.text_memory.Data.{HasText}
use Rattle.runtime_proofs.specs.text_memory.Pieces.{item_at, item_offset, set_segment}
use Rattle.runtime_proofs.proofs.text_memory.Effects.{datum-place, segment-does}
use Rattle.rt_text.specs.str_routines.Routines.{store_length, begin_text, begin_blanks, move_blanks, move_text, fill_variable}

module _ (program : FlatProgram) (choice : Choice) (own : Frame) (sp : ℕ) (is_placed : IsPlaced choice own sp 18) (is_text : own.unit ≡ text_unit) (item ahead : ℕ) (there : HasText program choice item ahead) (e : Activation) (ts size w n : ℕ) (o : List ℕ) where
  abbrev ds : ℕ
  ds = choice.data_segment

  abbrev Goes : Code → ℕ → ℕ → Activation → Exit → Activation → Type 0
  Goes code turns work a exit b = Does program choice own sp code turns work a exit b

  -- the variable's pointer, that to the text, how many blanks are left, the pointer to them, how many bytes of the text are left, and where those go
  abbrev pub at : ℕ → ℕ → ℕ → Slot → Slot → ℕ → Slot → Slot → Cells → Activation
  at t f d i b g u v k = record e { words = Holds ts ∷ Holds t ∷ Holds size ∷ Holds 0 ∷ Holds 0 ∷ Holds w ∷ Shut ∷ Shut ∷ Shut ∷ Holds ds ∷ Holds f ∷ Holds n ∷ Holds d ∷ i ∷ b ∷ Holds g ∷ u ∷ v ∷ []; memory = k; out = o }

  blanks-moving : (f g v : ℕ) → Moving choice own 18 (pos 14) (negsuc 11) (negsuc 7) ts ds (λ t b d k. at t f d (Holds ds) (Holds b) g (Holds ts) (Holds v) k)
  blanks-moving f g v = record {
    target = λ t b d k plus. refl;
    source = λ t b d k plus. refl;
    memory = λ t b d k. refl;
    to_word = λ t b d k. refl;
    from_word = λ t b d k. refl;
    left_word = λ t b d k. refl;
    with_to = λ t b d k x. refl;
    with_from = λ t b d k x. refl;
    with_left = λ t b d k x. refl;
    with_memory = λ t b d k c. refl;
  }

  text-moving : (t b d : ℕ) → Moving choice own 18 (negsuc 17) (negsuc 3) (negsuc 13) ts ds (λ v f g k. at t f d (Holds ds) (Holds b) g (Holds ts) (Holds v) k)
  text-moving t b d = record {
    target = λ v f g k plus. refl;
    source = λ v f g k plus. refl;
    memory = λ v f g k. refl;
    to_word = λ v f g k. refl;
    from_word = λ v f g k. refl;
    left_word = λ v f g k. refl;
    with_to = λ v f g k x. refl;
    with_from = λ v f g k x. refl;
    with_left = λ v f g k x. refl;
    with_memory = λ v f g k c. refl;
  }

  item-offset : (a : Activation) → seen_value choice own 18 a (item_offset 0) ≡ Ok (wrapping_add w16 item 0)
  item-offset a = ap (λ (x : Found Place). let r : Found ℕ = x >>= λ p. Ok p.offset in r) (datum-place choice own 18 is_text a 0 item 0 there.item_is)

  module _ (t f d r : ℕ) (k : Cells) (fits : d + r < 256) (first_reached : k (address_of (place ts t) 0) ≡ Outside → ⊥) where
    abbrev variable : Place
    variable = place ts t

    abbrev pub sized : Cells
    sized = put k (address_of variable 0) (Known (d + r))

    length-does : Goes store_length 0 (code_size store_length) (at t f d Free Free r Free Free k) Onward (at t f d Free Free r Free Free sized)
    length-does =
        let a = at t f d Free Free r Free Free k in
        let here = plus-none ts t 0 in
        let value : low_byte (wrapping_add w16 d r) ≡ d + r = sum d r fits in
        straight-does program choice own sp 18 is_placed store_length a Onward (at t f d Free Free r Free Free sized)
        (store-so choice own 18 (Through (pos 14) 0) (Op op.Add (word (negsuc 7)) (word (negsuc 13))) End a (place_after variable 0) (wrapping_add w16 d r) refl refl (λ out. first_reached (ap k (sym here) ∙ out))
        ∙ ap (λ z. straight choice own 18 End (at t f d Free Free r Free Free (put k z (Known (low_byte (wrapping_add w16 d r)))))) here
        ∙ ap (λ v. straight choice own 18 End (at t f d Free Free r Free Free (put k (address_of variable 0) (Known v)))) value)
      where
        sum : (d r : ℕ) → d + r < 256 → low_byte (wrapping_add w16 d r) ≡ d + r
        sum d r h = omega (arith, h)

    begins : Goes (begin_text then begin_blanks) 0 20 (at t f d Free Free r Free Free sized) Onward (at t f d (Holds ds) (Holds (wrapping_add w16 item 0)) r (Holds ts) (Holds (wrapping_add w16 t d)) sized)
    begins =
        let v = wrapping_add w16 t d in
        let b = wrapping_add w16 item 0 in
        let a0 = at t f d Free Free r Free Free sized in
        let a1 = at t f d Free Free r (Holds ts) (Holds v) sized in
        let a2 = at t f d Free (Holds b) r (Holds ts) (Holds v) sized in
        let a3 = at t f d (Holds ds) (Holds b) r (Holds ts) (Holds v) sized in
        let pointer = set_word (negsuc 11) (item_offset 0) End in
        let first = straight-does program choice own sp 18 is_placed begin_text a0 Onward a1 refl in
        let second = straight-does program choice own sp 18 is_placed pointer a1 Onward a2 (set-so choice own 18 (negsuc 11) (item_offset 0) End a1 a2 b (item-offset a1) refl) in
        let third = segment-does program choice own sp 18 is_placed a2 a3 (negsuc 9) (item_at 0) (place_after (place ds item) 0) (datum-place choice own 18 is_text a2 0 item 0 there.item_is) there.segment refl (record { flag = refl; input = refl; out = refl; err = refl }) in
        let both = then-does program choice own sp pointer (set_segment (negsuc 9) End) 0 2 0 2 a1 a2 Onward a3 second third in
        weaker-does program choice own sp (begin_text then begin_blanks) (0 + (0 + 0)) (code_size begin_text + (2 + 2)) 0 20 a0 Onward a3 (omega arith) (omega arith)
        (then-does program choice own sp begin_text begin_blanks 0 (code_size begin_text) (0 + 0) (2 + 2) a0 a1 Onward a3 first both)

    -- where the blanks and the bytes stand, and may be moved from there
    module _ (blanks bytes : List ℕ) (many : length blanks ≡ d) (moved : length bytes ≡ r)
        (blanks_there : HasBytes sized (place ds (wrapping_add w16 item 0)) 1 blanks) (blanks_room : IsReached sized variable (1 + length blanks)) (blanks_can : CanMove variable (place ds (wrapping_add w16 item 0)) (1 + length blanks))
        (bytes_there : HasBytes (laid sized variable 1 blanks) (place ds f) 1 bytes) (bytes_room : IsReached (laid sized variable 1 blanks) (place ts (wrapping_add w16 t d)) (1 + length bytes)) (bytes_can : CanMove (place ts (wrapping_add w16 t d)) (place ds f) (1 + length bytes)) where
      abbrev pub filled_with : Cells
      filled_with = laid (laid sized variable 1 blanks) (place ts (wrapping_add w16 t d)) 1 bytes

      pub record Filled : Type 0 where
        pub t' : ℕ
        pub f' : ℕ
        pub b' : ℕ
        pub v' : ℕ
        pub does : Goes fill_variable 260 5400 (at t f d Free Free r Free Free k) Onward (at t' f' 0 (Holds ds) (Holds b') 0 (Holds ts) (Holds v') filled_with)

      pub filled-so : Filled
      filled-so =
          let b = wrapping_add w16 item 0 in
          let v = wrapping_add w16 t d in
          let k2 = laid sized variable 1 blanks in
          let one = forward-does program choice own sp 18 is_placed (pos 14) (negsuc 11) (negsuc 7) ts ds (λ t b d k. at t f d (Holds ds) (Holds b) r (Holds ts) (Holds v) k) (blanks-moving f r v) blanks t b sized (omega (arith, many, fits)) blanks_there blanks_room blanks_can in
          let two = forward-does program choice own sp 18 is_placed (negsuc 17) (negsuc 3) (negsuc 13) ts ds (λ v f g k. at one.to f 0 (Holds ds) (Holds one.from) g (Holds ts) (Holds v) k) (text-moving one.to one.from 0) bytes v f k2 (omega (arith, moved, fits)) bytes_there bytes_room bytes_can in
          let a0 = at t f d Free Free r Free Free k in
          let a1 = at t f d Free Free r Free Free sized in
          let a2 = at t f d (Holds ds) (Holds b) r (Holds ts) (Holds v) sized in
          let a3 = at one.to f 0 (Holds ds) (Holds one.from) r (Holds ts) (Holds v) k2 in
          let a4 = at one.to two.from 0 (Holds ds) (Holds one.from) 0 (Holds ts) (Holds two.to) filled_with in
          let x = 1 + length blanks in
          let y = 1 + length bytes in
          let third = subst (λ c. Goes move_blanks x (20 * x) (at t f c (Holds ds) (Holds b) r (Holds ts) (Holds v) sized) Onward a3) many one.does in
          let fourth = subst (λ c. Goes move_text y (20 * y) (at one.to f 0 (Holds ds) (Holds one.from) c (Holds ts) (Holds v) k2) Onward a4) moved two.does in
          let moves = then-does program choice own sp move_blanks move_text x (20 * x) y (20 * y) a2 a3 Onward a4 third fourth in
          let rest = then-does program choice own sp (begin_text then begin_blanks) (move_blanks then move_text) 0 20 (x + y) (20 * x + 20 * y) a1 a2 Onward a4 begins moves in
          record {
            t' = one.to;
            f' = two.from;
            b' = one.from;
            v' = two.to;
            does = weaker-does program choice own sp fill_variable (0 + (0 + (x + y))) (code_size store_length + (20 + (20 * x + 20 * y))) 260 5400 a0 Onward a4 (omega (arith, many, moved, fits)) (omega (arith, many, moved, fits))
                (then-does program choice own sp store_length ((begin_text then begin_blanks) then (move_blanks then move_text)) 0 (code_size store_length) (0 + (x + y)) (20 + (20 * x + 20 * y)) a0 a1 Onward a4 length-does rest);
          }

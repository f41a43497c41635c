-- Val takes a numeral behind blanks and tabs.
use Rattle.std.proofs.Common.{◌≡◌, ℕ, zero, suc, ◌+◌, ◌-◌, ◌<◌, ◌≤◌, Bool, true, false, List, [], ◌∷◌, ◌++◌, length, take, drop, append_assoc, Result, Ok, Err, refl, sym, ap, ◌∙◌, subst, arith, eqb}
use Rattle.std.proofs.Math.IntN.{ℤ}
use Rattle.std.proofs.Math.Seq.{take-add}
use Rattle.std.specs.Char.{digit_value}
use Rattle.std.specs.Str.Parse.{AllDigits}
use Rattle.std.proofs.lemmas.Bool.{ne_eqb}
use Rattle.std.proofs.lemmas.List.{length-drop, take-append-drop}
use Rattle.common_values.specs.Numerals.{Sign, none, plus, minus, sign_bytes, dollar_bytes, radix_of, IsNumeral, IsPrefix, numeral_of, is_gap_byte, gap_length, val_by, val_of, AllGap, IsValText, IsValPrefix}
use Rattle.common_values.specs.NumeralLaws.{IsFault, ValLaws}
use Rattle.common_values.proofs.Prefixes.{Stops, prefix_passes, rest_stops, prefix-within, drop-run, same_rest}
use Rattle.common_values.proofs.NumeralLemmas.{reading_laws}

-- ---- a numeral has no blank first

no_gap : (c : ℕ) → digit_value c < 36 → is_gap_byte c ≡ false
no_gap c h =
    let blank : eqb c 32 ≡ false = ne_eqb c 32 (λ e. let same = ap digit_value e in absurd (omega arith)) in
    let tab : eqb c 9 ≡ false = ne_eqb c 9 (λ e. let same = ap digit_value e in absurd (omega arith)) in
    rw (blank, tab) refl

digits_stop : (ds : List ℕ) → AllDigits 10 ds → Stops is_gap_byte ds
digits_stop [] h = tt
digits_stop (d ∷ ds) h = let small = h.0 in no_gap d (omega arith)

spelling_stops : (sign : Sign) (hex : Bool) (ds : List ℕ) → AllDigits (radix_of hex) ds → Stops is_gap_byte (sign_bytes sign ++ (dollar_bytes hex ++ ds))
spelling_stops none true ds h = refl
spelling_stops none false ds h = digits_stop ds h
spelling_stops plus hex ds h = refl
spelling_stops minus hex ds h = refl

numeral_stops : (text : List ℕ) (z : ℤ) → IsNumeral text z → Stops is_gap_byte text
numeral_stops text z n = subst (Stops is_gap_byte) (sym n.spelled) (spelling_stops n.numeral.sign n.numeral.is_hexadecimal n.numeral.digits n.digits)

-- ---- what Val answers

value_by : (text : List ℕ) (r : Result ℤ ℕ) → numeral_of (drop (gap_length text) text) ≡ r → (val_by (gap_length text) r).1 ≡ 0 → IsValText text (val_by (gap_length text) r).0
value_by text (Ok z) e h = record {
  gap = take (gap_length text) text;
  rest = drop (gap_length text) text;
  blank = prefix_passes is_gap_byte text (gap_length text) (omega arith);
  parts = sym (take-append-drop (gap_length text) text);
  numeral = reading_laws.value (drop (gap_length text) text) z e;
}
value_by text (Err p) e h =
    let fault = reading_laws.fault (drop (gap_length text) text) p e in
    let positive = fault.positive in
    absurd (omega arith)

read : (text : List ℕ) (z : ℤ) → IsValText text z → val_of text ≡ (z, 0)
read text z v =
    let stops = numeral_stops v.rest z v.numeral in
    let same : drop (gap_length text) text ≡ v.rest = ap (λ (l : List ℕ). drop (gap_length l) l) v.parts ∙ drop-run is_gap_byte v.gap v.rest v.blank stops in
    ap (λ (l : List ℕ). val_by (gap_length text) (numeral_of l)) same ∙ ap (val_by (gap_length text)) (reading_laws.read v.rest z v.numeral)

stops_prefix : (rest more : List ℕ) (n : ℕ) → 0 < n → n ≤ length rest → Stops is_gap_byte rest → Stops is_gap_byte (take n rest ++ more)
stops_prefix [] more n h l s = absurd (omega arith)
stops_prefix (b ∷ rest) more zero h l s = absurd (omega arith)
stops_prefix (b ∷ rest) more (suc n) h l s = s

fault_by : (text : List ℕ) (g p : ℕ) → g ≡ gap_length text → IsFault IsPrefix (drop g text) p → IsFault IsValPrefix text (g + p)
fault_by text g p e f =
    let positive = f.positive in
    let within = f.within in
    let inside : g ≤ length text = let w = prefix-within is_gap_byte text in omega arith in
    let left = length-drop g text in
    let passes : AllGap (take g text) = prefix_passes is_gap_byte text g (omega arith) in
    let stops : Stops is_gap_byte (drop g text) = subst (λ (n : ℕ). Stops is_gap_byte (drop n text)) (sym e) (rest_stops is_gap_byte text) in
    let before : g + p - 1 ≡ g + (p - 1) = omega arith in
    record {
      positive = omega arith;
      within = omega arith;
      front = record {
        rest = f.front.rest;
        value = f.front.value;
        whole = record {
          gap = take g text;
          rest = take (p - 1) (drop g text) ++ f.front.rest;
          blank = passes;
          parts = rw (before, take-add g (p - 1) text) (append_assoc (take g text) (take (p - 1) (drop g text)) f.front.rest);
          numeral = f.front.whole;
        };
      };
      stops = λ h v.
          let w = v.whole in
          let there : take (g + p) text ++ v.rest ≡ take g text ++ (take p (drop g text) ++ v.rest) = rw (take-add g p text) (append_assoc (take g text) (take p (drop g text)) v.rest) in
          let same = same_rest is_gap_byte w.gap w.rest (take g text) (take p (drop g text) ++ v.rest) (sym w.parts ∙ there) w.blank (numeral_stops w.rest v.value w.numeral) passes (stops_prefix (drop g text) v.rest p positive (omega arith) stops) in
          f.stops (omega arith) (record { rest = v.rest; value = v.value; whole = subst (λ (l : List ℕ). IsNumeral l v.value) same w.numeral });
    }

fault_of : (text : List ℕ) (r : Result ℤ ℕ) → numeral_of (drop (gap_length text) text) ≡ r → 0 < (val_by (gap_length text) r).1 → IsFault IsValPrefix text (val_by (gap_length text) r).1
fault_of text (Ok z) e h = absurd (omega arith)
fault_of text (Err p) e h = fault_by text (gap_length text) p refl (reading_laws.fault (drop (gap_length text) text) p e)

pub val_laws : ValLaws
val_laws = record {
  value = λ text h. value_by text (numeral_of (drop (gap_length text) text)) refl h;
  read = read;
  fault = λ text h. fault_of text (numeral_of (drop (gap_length text) text)) refl h;
}

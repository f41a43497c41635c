-- Texts with one more.
use Rattle.std.proofs.Common.{◌≡◌, ℕ, ◌+◌, ◌≤◌, Bool, true, false, cond, nat_lt, List, [], ◌∷◌, ◌++◌, length, Option, Some, None, Result, Ok, Err, refl, sym, ap, ◌∙◌, arith}
use Rattle.std.proofs.lemmas.List.Sums.{sum-map, sum_by_push}
use Rattle.std.proofs.lemmas.Bool.Decides.{nat_tests}
use Rattle.tp_lexer.specs.declared.token.Text.{Text}
use Rattle.source_graph.specs.declared.error.GatherError.{GatherError}
use Rattle.source_graph.specs.declared.error.GatherError.TheVariants.{TooLarge}
use Rattle.source_graph.specs.Texts.{bytes_in, leads_out, with_text, with_file}

pub bytes_in-push : (texts : List Text) (text : Text) → bytes_in (texts ++ text ∷ []) ≡ bytes_in texts + length text.bytes
bytes_in-push texts text =
    sum-map (λ (t : Text). length t.bytes) (texts ++ text ∷ []) ∙ sum_by_push (λ (t : Text). length t.bytes) texts text
    ∙ ap (λ (n : ℕ). n + length text.bytes) (sym (sum-map (λ (t : Text). length t.bytes) texts))

abbrev chosen : List Text → List ℕ → List ℕ → Bool → Bool → Result (List Text) GatherError
chosen texts name bytes large full =
    cond large (Err (TooLarge (length bytes))) (cond full (Err (TooLarge (bytes_in texts + length bytes))) (Ok (texts ++ record { name = name; bytes = bytes } ∷ [])))

module _ (texts : List Text) (name bytes : List ℕ) where
  -- what came of a text that was put behind these
  pub with_text_is : (more : List Text) → with_text texts name bytes ≡ Ok more → (more ≡ texts ++ record { name = name; bytes = bytes } ∷ []) × (bytes_in texts + length bytes ≤ 16777216)
  with_text_is more is = by (nat_lt 1048576 (length bytes)) (nat_lt 16777216 (bytes_in texts + length bytes)) is (λ h. grind (arith, nat_tests))
    where
      by : (large full : Bool) → chosen texts name bytes large full ≡ Ok more → (full ≡ false → bytes_in texts + length bytes ≤ 16777216)
          → (more ≡ texts ++ record { name = name; bytes = bytes } ∷ []) × (bytes_in texts + length bytes ≤ 16777216)
      by true full is room = absurd cc
      by false true is room = absurd cc
      by false false is room =
          let same : texts ++ record { name = name; bytes = bytes } ∷ [] ≡ more = cc in (sym same, room refl)

-- What came of a file is a text more: the file is there, and its name leads nowhere else.
pub record IsPut (texts more : List Text) (name : List ℕ) (found : Option (List ℕ)) : Type 0 where
  pub bytes : List ℕ
  pub found_is : found ≡ Some bytes
  pub inside : leads_out name ≡ false
  pub put : with_text texts name bytes ≡ Ok more

pub with_file_is : (error : GatherError) (texts more : List Text) (name : List ℕ) (found : Option (List ℕ)) → with_file error texts name found ≡ Ok more → IsPut texts more name found
with_file_is error texts more name None is = absurd cc
with_file_is error texts more name (Some bytes) is = by (leads_out name) refl is
  where
    by : (out : Bool) → leads_out name ≡ out → cond out (Err error) (with_text texts name bytes) ≡ Ok more → IsPut texts more name (Some bytes)
    by true is_out none = absurd cc
    by false is_in put = record { bytes = bytes; found_is = refl; inside = is_in; put = put }

-- a name that leads out of the folder is that of no file, whatever is there
pub out_is : (error : GatherError) (texts : List Text) (name : List ℕ) (found : Option (List ℕ)) → leads_out name ≡ true → with_file error texts name found ≡ Err error
out_is error texts name None out = refl
out_is error texts name (Some bytes) out = ap (λ (b : Bool). cond b (Err error) (with_text texts name bytes)) out

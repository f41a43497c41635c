-- From the front of a text to a position in it.
use Rattle.std.proofs.Common.{◌≡◌, ℕ, ◌+◌, ◌≤◌, List, [], ◌∷◌, ◌++◌, length, take, drop, Ok, Err, sym, refl, ap, ◌∙◌, subst, arith, append_assoc, take-append-drop, append-nil, drop-drop}
use Rattle.std.specs.List.{concat}
use Rattle.std.proofs.lemmas.List.{take-take, drop-take}
use Rattle.std.proofs.Math.ListN.{drop_of_length-le}
use Rattle.type_layout.specs.declared.texts.Place.{Place}
use Rattle.tp_lexer.specs.declared.token.Token.{Token}
use Rattle.tp_lexer.specs.declared.token.LexError.{LexError}
use Rattle.tp_lexer.specs.Places.{place_after}
use Rattle.tp_lexer.specs.Effects.{Settings, Context, Effect, goes, includes, fails, is_read}
use Rattle.tp_lexer.specs.Grammar.{Takes}
use Rattle.tp_lexer.specs.declared.shape.Shape.{Shape}
use Rattle.tp_lexer.specs.Tokens.{Outcome, preceded, ended, Follows, Spells, effect_at}

pub preceded-preceded : (a b : List Token) (o : Outcome) → preceded a (preceded b o) ≡ preceded (a ++ b) o
preceded-preceded a b (Ok read) = let again : List Token → Outcome = λ tokens. Ok (tokens, read.1) in sym (ap again (append_assoc a b read.0))
preceded-preceded a b (Err error) = refl

-- the spellings of the whole text come to the outcome
abbrev pub Whole : (Place → List ℕ → Settings → Outcome → Type 0) → ℕ → List ℕ → Settings → Outcome → Type 0
Whole Includes number bytes now o =
    (whole : List (List ℕ)) × (concat whole ≡ bytes) × Spells Includes number [] (record { settings = now; conditions = [] }) whole o

-- what the text behind the position comes to, the whole comes to behind these tokens
abbrev pub Leads : (Place → List ℕ → Settings → Outcome → Type 0) → ℕ → List ℕ → Settings → ℕ → Context → List Token → Type 0
Leads Includes number bytes now position context emitted =
    (spellings : List (List ℕ)) (o : Outcome) → concat spellings ≡ drop position bytes → Spells Includes number (take position bytes) context spellings o → Whole Includes number bytes now (preceded emitted o)

-- the piece at a position has this effect
pub record Stands (number : ℕ) (bytes : List ℕ) (position n : ℕ) (context : Context) (effect : Effect) : Type 0 where
  pub shape : Shape
  pub longest : Takes (is_read context.conditions) shape (take n (drop position bytes)) (drop n (drop position bytes))
  pub does : effect_at (place_after number (take position bytes)) context shape (take n (drop position bytes)) ≡ effect

drop_drop : (m n : ℕ) (xs : List ℕ) → drop n (drop m xs) ≡ drop (m + n) xs
drop_drop m n xs = drop-drop n m xs

pub take_take : (m n : ℕ) (xs : List ℕ) → take m xs ++ take n (drop m xs) ≡ take (m + n) xs
take_take m n xs =
    let whole = take (m + n) xs in
    let short : m ≤ m + n = omega arith in
    let front : take m whole ≡ take m xs = take-take m (m + n) xs short in
    let back : drop m whole ≡ take n (drop m xs) = drop-take m n xs in
    ap (λ (t : List ℕ). t ++ take n (drop m xs)) (sym front) ∙ ap (λ (t : List ℕ). take m whole ++ t) (sym back) ∙ take-append-drop m whole

module _ (Includes : Place → List ℕ → Settings → Outcome → Type 0) (number : ℕ) (bytes : List ℕ) (now : Settings) where
  step : (position n : ℕ) (context : Context) (emitted : List Token) (effect : Effect) → Stands number bytes position n context effect → Leads Includes number bytes now position context emitted → (spellings : List (List ℕ)) (o : Outcome) → concat spellings ≡ drop (position + n) bytes → Follows Includes (λ next rest. Spells Includes number (take (position + n) bytes) next spellings rest) (place_after number (take position bytes)) context effect o → Whole Includes number bytes now (preceded emitted o)
  step position n context emitted effect stands leads spellings o joined follows =
      let place = place_after number (take position bytes) in
      let rest = drop position bytes in
      let s = take n rest in
      let behind : drop n rest ≡ concat spellings = drop_drop position n bytes ∙ sym joined in
      let whole : s ++ concat spellings ≡ rest = ap (λ (t : List ℕ). s ++ t) (sym behind) ∙ take-append-drop n rest in
      let longest : Takes (is_read context.conditions) stands.shape s (concat spellings) = subst (Takes (is_read context.conditions) stands.shape s) behind stands.longest in
      let F : List ℕ → Effect → Type 0 = λ before e. Follows Includes (λ next x. Spells Includes number before next spellings x) place context e o in
      let here : F (take position bytes ++ s) effect = subst (λ (before : List ℕ). F before effect) (sym (take_take position n bytes)) follows in
      let there : F (take position bytes ++ s) (effect_at place context stands.shape s) = subst (λ (e : Effect). F (take position bytes ++ s) e) (sym stands.does) here in
      leads (s ∷ spellings) o whole (stands.shape, longest, there)

  more_tokens : (emitted tokens : List Token) (o : Outcome) → Whole Includes number bytes now (preceded emitted (preceded tokens o)) → Whole Includes number bytes now (preceded (emitted ++ tokens) o)
  more_tokens emitted tokens o whole = subst (Whole Includes number bytes now) (preceded-preceded emitted tokens o) whole

  pub leads_goes : (position n : ℕ) (context : Context) (emitted tokens : List Token) (next : Context) → Stands number bytes position n context (goes tokens next) → Leads Includes number bytes now position context emitted → Leads Includes number bytes now (position + n) next (emitted ++ tokens)
  leads_goes position n context emitted tokens next stands leads spellings o joined rest =
      more_tokens emitted tokens o (step position n context emitted (goes tokens next) stands leads spellings (preceded tokens o) joined (o, rest, refl))

  pub leads_included : (position n : ℕ) (context : Context) (emitted tokens : List Token) (name : List ℕ) (after : Settings) → Stands number bytes position n context (includes name) → Includes (place_after number (take position bytes)) name context.settings (Ok (tokens, after)) → Leads Includes number bytes now position context emitted → Leads Includes number bytes now (position + n) (record { settings = after; conditions = context.conditions }) (emitted ++ tokens)
  leads_included position n context emitted tokens name after stands included leads spellings o joined rest =
      let inner : Outcome = Ok (tokens, after) in
      more_tokens emitted tokens o (step position n context emitted (includes name) stands leads spellings (preceded tokens o) joined (inner, included, (o, rest, refl)))

  pub fails_included : (position n : ℕ) (context : Context) (emitted : List Token) (name : List ℕ) (error : LexError) → Stands number bytes position n context (includes name) → Includes (place_after number (take position bytes)) name context.settings (Err error) → Leads Includes number bytes now position context emitted → Whole Includes number bytes now (Err error)
  fails_included position n context emitted name error stands included leads =
      let inner : Outcome = Err error in
      step position n context emitted (includes name) stands leads (drop (position + n) bytes ∷ []) inner (append-nil (drop (position + n) bytes)) (inner, included, refl)

  pub fails_here : (position n : ℕ) (context : Context) (emitted : List Token) (error : LexError) → Stands number bytes position n context (fails error) → Leads Includes number bytes now position context emitted → Whole Includes number bytes now (Err error)
  fails_here position n context emitted error stands leads =
      let inner : Outcome = Err error in
      step position n context emitted (fails error) stands leads (drop (position + n) bytes ∷ []) inner (append-nil (drop (position + n) bytes)) refl

  pub leads_end : (position : ℕ) (context : Context) (emitted : List Token) → length bytes ≤ position → Leads Includes number bytes now position context emitted → Whole Includes number bytes now (preceded emitted (ended context.conditions context.settings))
  leads_end position context emitted past leads = leads [] (ended context.conditions context.settings) (sym (drop_of_length-le bytes past)) refl

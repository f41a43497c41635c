-- A text comes to one outcome.
use Rattle.std.proofs.Common.{◌≡◌, ℕ, zero, suc, ◌+◌, ◌<◌, Bool, List, [], ◌∷◌, ◌++◌, length, Option, Some, None, Ok, Err, MatchOption, sym, refl, ap, ◌∙◌, subst, arith, length-append}
use Rattle.std.specs.List.{concat}
use Rattle.std.specs.Prelude.{position, nat_eq}
use Rattle.std.specs.Cmp.Lexicographic.{pointwise}
use Rattle.type_layout.specs.declared.texts.Place.{Place}
use Rattle.tp_lexer.specs.declared.token.Text.{Text}
use Rattle.tp_lexer.specs.declared.token.Token.{Token}
use Rattle.tp_lexer.specs.declared.token.LexError.{LexError}
use Rattle.tp_lexer.specs.declared.token.LexError.TheVariants as e
use Rattle.tp_lexer.specs.Grammar.{Takes}
use Rattle.tp_lexer.specs.declared.shape.Shape.{Shape}
use Rattle.tp_lexer.specs.Places.{place_after}
use Rattle.tp_lexer.specs.Effects.{Settings, Context, Effect, goes, includes, fails, is_read}
use Rattle.tp_lexer.specs.Tokens.{Outcome, preceded, Continues, Follows, Spells, IncludesNone, IncludesBy, Reads, Tokens, Breaks, effect_at, first_settings}
use Rattle.tp_lexer.proofs.Cuts.{takes_some, takes_once}

module _ (Includes : Place → List ℕ → Settings → Outcome → Type 0) (once : (place : Place) (name : List ℕ) (now : Settings) (a b : Outcome) → Includes place name now a → Includes place name now b → a ≡ b) where
  continues_once : (R S : Context → Outcome → Type 0) → ((c : Context) (a b : Outcome) → R c a → S c b → a ≡ b) → (context : Context) (included a b : Outcome) → Continues R context included a → Continues S context included b → a ≡ b
  continues_once R S same context (Ok read) a b left right = left.2 ∙ ap (preceded read.0) (same _ _ _ left.1 right.1) ∙ sym right.2
  continues_once R S same context (Err error) a b left right = left ∙ sym right

  follows_once : (R S : Context → Outcome → Type 0) → ((c : Context) (a b : Outcome) → R c a → S c b → a ≡ b) → (place : Place) (context : Context) (effect : Effect) (a b : Outcome) → Follows Includes R place context effect a → Follows Includes S place context effect b → a ≡ b
  follows_once R S same place context (goes tokens next) a b left right = left.2 ∙ ap (preceded tokens) (same _ _ _ left.1 right.1) ∙ sym right.2
  follows_once R S same place context (includes name) a b left right =
      let e : left.0 ≡ right.0 = once place name context.settings left.0 right.0 left.1 right.1 in
      continues_once R S same context left.0 a b left.2 (subst (λ (i : Outcome). Continues S context i b) (sym e) right.2)
  follows_once R S same place context (fails error) a b left right = left ∙ sym right

  nothing_stands : (is_live : Bool) (shape : Shape) (spelling rest : List ℕ) → [] ≡ spelling ++ rest → Takes is_live shape spelling rest → ⊥
  nothing_stands is_live shape spelling rest e takes =
      let some : 0 < length spelling = takes_some is_live shape spelling rest takes in
      let none : 0 ≡ length spelling + length rest = ap length e ∙ length-append spelling rest in
      omega arith

  -- two spellings of one text that are equally long are the same, and so is what follows
  front_once : (s t : List ℕ) (x y : List ℕ) → s ++ x ≡ t ++ y → length s ≡ length t → (s ≡ t) × (x ≡ y)
  front_once [] [] x y e long = (refl, e)
  front_once [] (d ∷ t) x y e long = absurd (omega arith)
  front_once (c ∷ s) [] x y e long = absurd (omega arith)
  front_once (c ∷ s) (d ∷ t) x y e long =
      let heads : c ≡ d = cc in
      let tails : s ++ x ≡ t ++ y = cc in
      let shorter : length s ≡ length t = omega arith in
      let rest = front_once s t x y tails shorter in
      (cc (rest.0), rest.1)

  pub spells_once : (number : ℕ) (before : List ℕ) (context : Context) (left right : List (List ℕ)) (a b : Outcome) → concat left ≡ concat right → Spells Includes number before context left a → Spells Includes number before context right b → a ≡ b
  spells_once number before context [] [] a b e l r = l ∙ sym r
  spells_once number before context [] (t ∷ more) a b e l r = absurd (nothing_stands (is_read context.conditions) r.0 t (concat more) e r.1)
  spells_once number before context (s ∷ more) [] a b e l r = absurd (nothing_stands (is_read context.conditions) l.0 s (concat more) (sym e) l.1)
  spells_once number before context (s ∷ more) (t ∷ others) a b e l r =
      let place = place_after number before in
      let F : List ℕ → Shape → Type 0 = λ spelling shape. Follows Includes (λ next rest. Spells Includes number (before ++ spelling) next others rest) place context (effect_at place context shape spelling) b in
      let same = takes_once (is_read context.conditions) l.0 r.0 s (concat more) t (concat others) e l.1 r.1 in
      let fronts = front_once s t (concat more) (concat others) e same.0 in
      let there : F t l.0 = subst (λ (shape : Shape). F t shape) (sym same.1) r.2 in
      let here : F s l.0 = subst (λ (spelling : List ℕ). F spelling l.0) (sym fronts.0) there in
      follows_once _ _ (λ c x y p q. spells_once number (before ++ s) c more others x y fronts.1 p q) place context _ a b l.2 here

includes_by_once : (Includes : ℕ → Settings → Outcome → Type 0) → ((number : ℕ) (now : Settings) (a b : Outcome) → Includes number now a → Includes number now b → a ≡ b) → (place : Place) (name : List ℕ) (now : Settings) (found : Option ℕ) (a b : Outcome) → MatchOption found (a ≡ Err (e.MissingInclude place name)) (λ n. Includes n now a) → MatchOption found (b ≡ Err (e.MissingInclude place name)) (λ n. Includes n now b) → a ≡ b
includes_by_once Includes once place name now None a b l r = l ∙ sym r
includes_by_once Includes once place name now (Some n) a b l r = once n now a b l r

pub reads_once : (depth : ℕ) (texts : List Text) (number : ℕ) (now : Settings) (a b : Outcome) → Reads depth texts number now a → Reads depth texts number now b → a ≡ b
reads_once zero texts number now a b l r = spells_once IncludesNone (λ place name s x y p q. p ∙ sym q) number [] _ l.0 r.0 a b (l.1 ∙ sym r.1) l.2 r.2
reads_once (suc depth) texts number now a b l r =
    spells_once (IncludesBy (Reads depth texts) texts)
    (λ place name s x y p q. includes_by_once (Reads depth texts) (λ n t u v. reads_once depth texts n t u v) place name s (position (λ text. pointwise nat_eq text.name name) texts) x y p q)
    number [] _ l.0 r.0 a b (l.1 ∙ sym r.1) l.2 r.2

-- at most one list stands in the relation to a text
pub tokens_once : (texts : List Text) (main : ℕ) (defined : List (List ℕ)) (left right : List Token) → Tokens texts main defined left → Tokens texts main defined right → left ≡ right
tokens_once texts main defined left right l r =
    let x : Outcome = Ok (left, l.after) in
    let y : Outcome = Ok (right, r.after) in
    let e : x ≡ y = reads_once 8 texts main (first_settings defined) x y l.reads r.reads in
    let v : List Token × Settings = (left, l.after) in
    let w : List Token × Settings = (right, r.after) in
    let same : v ≡ w = cc in
    ap (λ (read : List Token × Settings). read.0) same

-- where a rule is broken, there is no list
pub tokens_or_break : (texts : List Text) (main : ℕ) (defined : List (List ℕ)) (list : List Token) (error : LexError) → Tokens texts main defined list → Breaks texts main defined error → ⊥
tokens_or_break texts main defined list error l r =
    let x : Outcome = Ok (list, l.after) in
    let y : Outcome = Err error in
    let e : x ≡ y = reads_once 8 texts main (first_settings defined) x y l.reads r.reads in cc

-- one rule alone is the first that is broken
pub breaks_once : (texts : List Text) (main : ℕ) (defined : List (List ℕ)) (x y : LexError) → Breaks texts main defined x → Breaks texts main defined y → x ≡ y
breaks_once texts main defined x y l r =
    let a : Outcome = Err x in
    let b : Outcome = Err y in
    let e : a ≡ b = reads_once 8 texts main (first_settings defined) a b l.reads r.reads in cc

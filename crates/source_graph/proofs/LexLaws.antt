-- The tokens of a text, with what it includes.
use Rattle.std.proofs.Common.{◌≡◌, ℕ, List, [], ◌∷◌, ◌++◌, Result, Ok, Err, refl, sym, ◌∙◌, subst}
use Rattle.tp_outside.specs.Folder.{Folder}
use Rattle.tp_lexer.specs.declared.token.LexError.{LexError}
use Rattle.tp_lexer.specs.declared.token.LexError.TheVariants as broken
use Rattle.tp_lexer.specs.declared.token.Text.{Text}
use Rattle.tp_lexer.specs.declared.token.Token.{Token}
use Rattle.tp_lexer.specs.Tokens.{Tokens, Breaks}
use Rattle.tp_lexer.proofs.TokenLaws.{tokens_once, tokens_or_break, breaks_once}
use Rattle.source_graph.specs.declared.error.GatherError.{GatherError}
use Rattle.source_graph.specs.Texts.{defined}
use Rattle.source_graph.specs.Files.{with_included, Lacks, Includes, ComesTo, IsCause, FailsBy}

-- ---- one file more

pub includes_more : (held : Folder) (main : ℕ) (first : List Text) (names : List (List ℕ)) (texts more : List Text) (name : List ℕ)
    → Includes held main first names texts → Lacks texts main name → with_included held texts name ≡ Ok more → Includes held main first (names ++ name ∷ []) more
includes_more held main first [] texts more name same lacks has =
    let lacks_first : Lacks first main name = subst (λ (t : List Text). Lacks t main name) (sym same) lacks in
    let has_first : with_included held first name ≡ Ok more = subst (λ (t : List Text). with_included held t name ≡ Ok more) (sym same) has in
    (more, lacks_first, has_first, refl)
includes_more held main first (n ∷ names) texts more name steps lacks has =
    (steps.0, steps.1, steps.2, includes_more held main steps.0 names texts more name steps.3 lacks has)

-- ---- a text comes to one end

module _ (held : Folder) (main : ℕ) where
  lacks_once : (texts : List Text) (x y : List ℕ) → Lacks texts main x → Lacks texts main y → x ≡ y
  lacks_once texts x y l r =
      let same : broken.MissingInclude l.0 x ≡ broken.MissingInclude r.0 y = breaks_once texts main defined _ _ l.1 r.1 in cc

  -- nothing that the text lacks is there
  abbrev pub IsLast : List Text → Type 0
  IsLast texts = (name : List ℕ) → Lacks texts main name → (more : List Text) → with_included held texts name ≡ Ok more → ⊥

  included_once : (texts a b : List Text) (x y : List ℕ) → x ≡ y → with_included held texts x ≡ Ok a → with_included held texts y ≡ Ok b → a ≡ b
  included_once texts a b x y same l r =
      let left : with_included held texts y ≡ Ok a = subst (λ (n : List ℕ). with_included held texts n ≡ Ok a) same l in
      let ok : List Text → Result (List Text) GatherError = λ t. Ok t in
      let both : ok a ≡ ok b = sym left ∙ r in cc

  pub includes_once : (first : List Text) (xs ys : List (List ℕ)) (a b : List Text) → Includes held main first xs a → Includes held main first ys b → IsLast a → IsLast b → a ≡ b
  includes_once first [] [] a b l r p q = sym l ∙ r
  includes_once first [] (y ∷ ys) a b l r p q = absurd (subst (λ (t : List Text). IsLast t) (sym l) p y r.1 r.0 r.2)
  includes_once first (x ∷ xs) [] a b l r p q = absurd (subst (λ (t : List Text). IsLast t) (sym r) q x l.1 l.0 l.2)
  includes_once first (x ∷ xs) (y ∷ ys) a b l r p q =
      let now : l.0 ≡ r.0 = included_once first l.0 r.0 x y (lacks_once first x y l.1 r.1) l.2 r.2 in
      includes_once l.0 xs ys a b l.3 (subst (λ (t : List Text). Includes held main t ys b) (sym now) r.3) p q

  tokens_last : (texts : List Text) (tokens : List Token) → Tokens texts main defined tokens → IsLast texts
  tokens_last texts tokens lexed name lacks more has = tokens_or_break texts main defined tokens _ lexed lacks.1

  cause_last : (texts : List Text) (rule : LexError) (error : GatherError) → Breaks texts main defined rule → IsCause held texts rule error → IsLast texts
  cause_last texts rule error breaks cause name lacks more has =
      let same : rule ≡ broken.MissingInclude lacks.0 name = breaks_once texts main defined rule _ breaks lacks.1 in
      let fails : with_included held texts name ≡ Err error = subst (λ (r : LexError). IsCause held texts r error) same cause in
      let ok : List Text → Result (List Text) GatherError = λ t. Ok t in
      let err : GatherError → Result (List Text) GatherError = λ e. Err e in
      let both : ok more ≡ err error = sym has ∙ fails in cc

  cause_once : (texts : List Text) (rule : LexError) (x y : GatherError) → IsCause held texts rule x → IsCause held texts rule y → x ≡ y
  cause_once texts (broken.MissingInclude place name) x y l r =
      let err : GatherError → Result (List Text) GatherError = λ e. Err e in
      let both : err x ≡ err y = sym l ∙ r in cc
  cause_once texts broken.NoMemory x y l r = absurd l
  cause_once texts rule x y l r = l ∙ sym r

  pub comes_once : (first a b : List Text) (xs ys : List Token) → ComesTo held main first a xs → ComesTo held main first b ys → (a ≡ b) × (xs ≡ ys)
  comes_once first a b xs ys l r =
      let same : a ≡ b = includes_once first l.names r.names a b l.includes r.includes (tokens_last a xs l.lexed) (tokens_last b ys r.lexed) in
      (same, tokens_once a main defined xs ys l.lexed (subst (λ (t : List Text). Tokens t main defined ys) (sym same) r.lexed))

  pub comes_or_fails : (first a : List Text) (xs : List Token) (error : GatherError) → ComesTo held main first a xs → FailsBy held main first error → ⊥
  comes_or_fails first a xs error l r =
      let same : a ≡ r.after = includes_once first l.names r.names a r.after l.includes r.includes (tokens_last a xs l.lexed) (cause_last r.after r.rule error r.breaks r.cause) in
      tokens_or_break a main defined xs r.rule l.lexed (subst (λ (t : List Text). Breaks t main defined r.rule) (sym same) r.breaks)

  pub fails_once : (first : List Text) (x y : GatherError) → FailsBy held main first x → FailsBy held main first y → x ≡ y
  fails_once first x y l r =
      let same : l.after ≡ r.after = includes_once first l.names r.names l.after r.after l.includes r.includes (cause_last l.after l.rule x l.breaks l.cause) (cause_last r.after r.rule y r.breaks r.cause) in
      let breaks : Breaks l.after main defined r.rule = subst (λ (t : List Text). Breaks t main defined r.rule) (sym same) r.breaks in
      let rules : l.rule ≡ r.rule = breaks_once l.after main defined l.rule r.rule l.breaks breaks in
      let cause : IsCause held l.after r.rule y = subst (λ (t : List Text). IsCause held t r.rule y) (sym same) r.cause in
      cause_once l.after l.rule x y l.cause (subst (λ (rule : LexError). IsCause held l.after rule y) (sym rules) cause)

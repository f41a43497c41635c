-- The tokens of a text are what the lexer may give.
use Rattle.std.proofs.Common.{◌≡◌, ℕ, zero, suc, List, [], ◌∷◌, ◌++◌, map, slice_index_or, nat_eq, position, Option, Some, None, Ok, Err, MatchOption, sym, subst}
use Rattle.std.specs.List.{All, concat}
use Rattle.std.specs.Cmp.Lexicographic.{pointwise}
use Rattle.std.proofs.lemmas.List.Elements.{All-nil, All-head, All-tail, All-append, All-take, All-map}
use Rattle.source_graph.specs.type_layout.declared.texts.Place.{Place}
use Rattle.source_graph.specs.tp_lexer.declared.token.Text.{Text}
use Rattle.source_graph.specs.tp_lexer.declared.token.Token.{Token}
use Rattle.source_graph.specs.tp_lexer.declared.token.LexError.TheVariants as e
use Rattle.source_graph.specs.tp_lexer.declared.condition.Condition.{Condition}
use Rattle.source_graph.specs.tp_lexer.Places.{place_after}
use Rattle.source_graph.specs.tp_lexer.Effects.{Settings, Context, Effect, goes, includes, fails, innermost}
use Rattle.source_graph.specs.tp_lexer.Tokens.{Outcome, preceded, ended_by, effect_at, Continues, Follows, Spells, text_at, ReadsText, IncludesNone, IncludesBy, Reads, Tokens, first_settings}
use Rattle.token_provenance.specs.leaves.Written.{AreTexts}
use Rattle.token_provenance.proofs.leaves.Halves.{All-left, All-right}
use Rattle.token_provenance.proofs.leaves.Contents.{IsByte}
use Rattle.token_provenance.proofs.leaves.Pieces.{IsWrittenToken, IsWrittenEffect, spelling_written}

abbrev IsWrittenOutcome : Outcome → Type 0
IsWrittenOutcome (Ok read) = All IsWrittenToken read.0
IsWrittenOutcome (Err error) = Unit {0}

preceded_written : (tokens : List Token) (outcome : Outcome) → All IsWrittenToken tokens → IsWrittenOutcome outcome → IsWrittenOutcome (preceded tokens outcome)
preceded_written tokens (Ok read) all is = All-append IsWrittenToken tokens read.0 all is
preceded_written tokens (Err error) all is = tt

ended_written : (condition : Option Condition) (now : Settings) → IsWrittenOutcome (ended_by condition now)
ended_written None now = All-nil IsWrittenToken
ended_written (Some c) now = tt

module _ (Rest : Context → Outcome → Type 0) (behind : (context : Context) (outcome : Outcome) → Rest context outcome → IsWrittenOutcome outcome) where
  continues_written : (context : Context) (included outcome : Outcome) → IsWrittenOutcome included → Continues Rest context included outcome → IsWrittenOutcome outcome
  continues_written context (Ok read) outcome is given = subst IsWrittenOutcome (sym given.2) (preceded_written read.0 given.0 is (behind _ given.0 given.1))
  continues_written context (Err error) outcome is given = subst IsWrittenOutcome (sym given) tt

  follows_written : (Includes : Place → List ℕ → Settings → Outcome → Type 0) → ((place : Place) (name : List ℕ) (now : Settings) (outcome : Outcome) → Includes place name now outcome → IsWrittenOutcome outcome)
      → (place : Place) (context : Context) (effect : Effect) (outcome : Outcome) → IsWrittenEffect effect → Follows Includes Rest place context effect outcome → IsWrittenOutcome outcome
  follows_written Includes inside place context (goes tokens next) outcome is given = subst IsWrittenOutcome (sym given.2) (preceded_written tokens given.0 is (behind next given.0 given.1))
  follows_written Includes inside place context (includes name) outcome is given = continues_written context given.0 outcome (inside place name context.settings given.0 given.1) given.2
  follows_written Includes inside place context (fails error) outcome is given = subst IsWrittenOutcome (sym given) tt

module _ (Includes : Place → List ℕ → Settings → Outcome → Type 0) (inside : (place : Place) (name : List ℕ) (now : Settings) (outcome : Outcome) → Includes place name now outcome → IsWrittenOutcome outcome) where
  spells_written : (number : ℕ) (before : List ℕ) (context : Context) (spellings : List (List ℕ)) (outcome : Outcome) → All IsByte (concat spellings) → Spells Includes number before context spellings outcome → IsWrittenOutcome outcome
  spells_written number before context [] outcome all given = subst IsWrittenOutcome (sym given) (ended_written (innermost context.conditions) context.settings)
  spells_written number before context (spelling ∷ more) outcome all given =
      let place = place_after number before in
      follows_written (λ next rest. Spells Includes number (before ++ spelling) next more rest)
      (λ next rest is. spells_written number (before ++ spelling) next more rest (All-right IsByte spelling (concat more) all) is)
      Includes inside place context (effect_at place context given.0 spelling) outcome (spelling_written place context given.0 spelling (All-left IsByte spelling (concat more) all)) given.2

bytes_at : (lists : List (List ℕ)) (number : ℕ) → All (All IsByte) lists → All IsByte (slice_index_or lists number [])
bytes_at [] number all = All-nil IsByte
bytes_at (x ∷ xs) zero all = All-head (All IsByte) x xs all
bytes_at (x ∷ xs) (suc number) all = bytes_at xs number (All-tail (All IsByte) x xs all)

text_bytes : (texts : List Text) (number : ℕ) → AreTexts texts → All IsByte (text_at texts number)
text_bytes texts number all = All-take IsByte _ _ (bytes_at (map (λ text. text.bytes) texts) number (All-map (All IsByte) (λ (text : Text). text.bytes) texts all))

included_written : (Reading : ℕ → Settings → Outcome → Type 0) → ((number : ℕ) (now : Settings) (outcome : Outcome) → Reading number now outcome → IsWrittenOutcome outcome)
    → (place : Place) (name : List ℕ) (now : Settings) (found : Option ℕ) (outcome : Outcome)
    → MatchOption found (outcome ≡ Err (e.MissingInclude place name)) (λ number. Reading number now outcome) → IsWrittenOutcome outcome
included_written Reading inside place name now None outcome given = subst IsWrittenOutcome (sym given) tt
included_written Reading inside place name now (Some number) outcome given = inside number now outcome given

module _ (texts : List Text) (all : AreTexts texts) where
  text_written : (Includes : Place → List ℕ → Settings → Outcome → Type 0) → ((place : Place) (name : List ℕ) (now : Settings) (outcome : Outcome) → Includes place name now outcome → IsWrittenOutcome outcome)
      → (number : ℕ) (now : Settings) (outcome : Outcome) → ReadsText Includes texts number now outcome → IsWrittenOutcome outcome
  text_written Includes inside number now outcome given =
      spells_written Includes inside number [] _ given.0 outcome (subst (All IsByte) (sym given.1) (text_bytes texts number all)) given.2

  reads_written : (depth number : ℕ) (now : Settings) (outcome : Outcome) → Reads depth texts number now outcome → IsWrittenOutcome outcome
  reads_written zero number now outcome given = text_written IncludesNone (λ place name next o is. subst IsWrittenOutcome (sym is) tt) number now outcome given
  reads_written (suc depth) number now outcome given =
      text_written (IncludesBy (Reads depth texts) texts)
      (λ place name next o is. included_written (Reads depth texts) (λ n s x r. reads_written depth n s x r) place name next (position (λ text. pointwise nat_eq text.name name) texts) o is)
      number now outcome given

pub tokens_written : (texts : List Text) (main : ℕ) (defined : List (List ℕ)) (list : List Token) → AreTexts texts → Tokens texts main defined list → All IsWrittenToken list
tokens_written texts main defined list all lexed = reads_written texts all 8 main (first_settings defined) (Ok (list, lexed.after)) lexed.reads

-- The tokens of a text, as a relation between texts and lists of tokens.
use Rattle.std.specs.Prelude.{◌≡◌, ℕ, zero, suc, false, ◌==◌, List, [], ◌∷◌, ◌++◌, map, nat_eq, slice_index_or, position, Option, Some, None, Result, Ok, Err, MatchResult, MatchOption, if◌then◌else◌}
use Rattle.std.specs.List.{concat, before_first, list_any}
use Rattle.std.specs.Cmp.Lexicographic.{pointwise}
use Rattle.type_layout.specs.declared.texts.Place.{Place}
use Rattle.tp_lexer.specs.declared.token.Text.{Text}
use Rattle.tp_lexer.specs.declared.token.Token.{Token}
use Rattle.tp_lexer.specs.declared.token.LexError.{LexError}
use Rattle.tp_lexer.specs.declared.token.LexError.TheVariants as e
use Rattle.tp_lexer.specs.declared.condition.Condition.{Condition}
use Rattle.tp_lexer.specs.declared.shape.Shape.{Shape}
use Rattle.tp_lexer.specs.Places.{place_after}
use Rattle.tp_lexer.specs.Grammar.{Takes}
use Rattle.tp_lexer.specs.Pieces.{piece_of, passed_of}
use Rattle.tp_lexer.specs.Effects.{Settings, Context, Effect, goes, includes, fails, innermost, is_read, effect_of, passed_effect}

-- the tokens and what holds behind them, or the first rule that is broken
abbrev pub Outcome : Type 0
Outcome = Result (List Token × Settings) LexError

abbrev pub preceded : List Token → Outcome → Outcome
preceded tokens (Ok read) = Ok (tokens ++ read.0, read.1)
preceded tokens (Err error) = Err error

-- at the end of a text each of its conditions is closed, or else the innermost one that is open breaks the rule
abbrev pub ended_by : Option Condition → Settings → Outcome
ended_by None now = Ok ([], now)
ended_by (Some c) now = Err (e.OpenCondition c.place)

abbrev pub ended : List Condition → Settings → Outcome
ended conditions now = ended_by (innermost conditions) now

-- what a spelling of this shape does at a place
abbrev pub effect_at : Place → Context → Shape → List ℕ → Effect
effect_at place context shape spelling = if is_read context.conditions
    then effect_of place context (piece_of shape spelling)
    else passed_effect place context (passed_of shape spelling)

-- what behind an included text comes to
abbrev pub Continues : (Context → Outcome → Type 0) → Context → Outcome → Outcome → Type 0
Continues Rest context included outcome = MatchResult included
    (λ read. (rest : Outcome) × Rest (record { settings = read.1; conditions = context.conditions }) rest × (outcome ≡ preceded read.0 rest))
    (λ error. outcome ≡ Err error)

-- what a piece with this effect, and the text behind it, come to
abbrev pub Follows : (Place → List ℕ → Settings → Outcome → Type 0) → (Context → Outcome → Type 0) → Place → Context → Effect → Outcome → Type 0
Follows Includes Rest place context (goes tokens next) outcome =
    (rest : Outcome) × Rest next rest × (outcome ≡ preceded tokens rest)
Follows Includes Rest place context (includes name) outcome =
    (included : Outcome) × Includes place name context.settings included × Continues Rest context included outcome
Follows Includes Rest place context (fails error) outcome = outcome ≡ Err error

-- These spellings stand one behind another in text `number`, behind the bytes `before`, and come to the outcome: each is the
-- longest that the grammar of tokens, blanks and comments allows there, and does what it stands for.
abbrev pub Spells : (Place → List ℕ → Settings → Outcome → Type 0) → ℕ → List ℕ → Context → List (List ℕ) → Outcome → Type 0
Spells Includes number before context [] outcome = outcome ≡ ended context.conditions context.settings
Spells Includes number before context (spelling ∷ more) outcome =
    (shape : Shape) × Takes (is_read context.conditions) shape spelling (concat more)
    × Follows Includes (λ next rest. Spells Includes number (before ++ spelling) next more rest) (place_after number before) context
    (effect_at (place_after number before) context shape spelling) outcome

-- a text ends before its first byte 26
abbrev pub text_at : List Text → ℕ → List ℕ
text_at texts number = before_first (λ c. c == 26) (slice_index_or (map (λ text. text.bytes) texts) number [])

-- the spellings of a whole text come to the outcome
abbrev pub ReadsText : (Place → List ℕ → Settings → Outcome → Type 0) → List Text → ℕ → Settings → Outcome → Type 0
ReadsText Includes texts number now outcome =
    (spellings : List (List ℕ)) × (concat spellings ≡ text_at texts number)
    × Spells Includes number [] (record { settings = now; conditions = [] }) spellings outcome

-- no text is included here
abbrev pub IncludesNone : Place → List ℕ → Settings → Outcome → Type 0
IncludesNone place name now outcome = outcome ≡ Err (e.BadDirective place)

-- the first text with the name is included
abbrev pub IncludesBy : (ℕ → Settings → Outcome → Type 0) → List Text → Place → List ℕ → Settings → Outcome → Type 0
IncludesBy Includes texts place name now outcome = MatchOption (position (λ text. pointwise nat_eq text.name name) texts)
    (outcome ≡ Err (e.MissingInclude place name))
    (λ number. Includes number now outcome)

-- what a text comes to in which includes may nest to this depth
abbrev pub Reads : ℕ → List Text → ℕ → Settings → Outcome → Type 0
Reads zero texts number now outcome = ReadsText IncludesNone texts number now outcome
Reads (suc depth) texts number now outcome = ReadsText (IncludesBy (Reads depth texts) texts) texts number now outcome

-- what an include comes to in such a text
abbrev pub IncludesAt : ℕ → List Text → Place → List ℕ → Settings → Outcome → Type 0
IncludesAt zero texts place name now outcome = IncludesNone place name now outcome
IncludesAt (suc depth) texts place name now outcome = IncludesBy (Reads depth texts) texts place name now outcome

-- what holds before a program's first byte
abbrev pub first_settings : List (List ℕ) → Settings
first_settings defined = record { switches = record { r = false; b = false; f = false; o = false }; defined = λ name. list_any (λ other. pointwise nat_eq other name) defined }

-- the spellings of the list, with blanks, comments and directives between them, are the text after includes and conditions are put in place
pub record Tokens (texts : List Text) (main : ℕ) (defined : List (List ℕ)) (list : List Token) : Type 0 where
  -- what holds behind the text
  pub after : Settings
  pub reads : Reads 8 texts main (first_settings defined) (Ok (list, after))

-- the first rule that the text breaks, and its place
pub record Breaks (texts : List Text) (main : ℕ) (defined : List (List ℕ)) (error : LexError) : Type 0 where
  pub reads : Reads 8 texts main (first_settings defined) (Err error)

abbrev pub AreOneList : Type 0
AreOneList = (texts : List Text) (main : ℕ) (defined : List (List ℕ)) (left right : List Token) → Tokens texts main defined left → Tokens texts main defined right → left ≡ right

abbrev pub AreOneFault : Type 0
AreOneFault = (texts : List Text) (main : ℕ) (defined : List (List ℕ)) (list : List Token) (error : LexError) → Tokens texts main defined list → Breaks texts main defined error → ⊥

-- The file of a source, and those that it includes.
use Rattle.std.specs.Prelude.{◌≡◌, ℕ, ◌||◌, Bool, cond, List, [], ◌∷◌, ◌++◌, length, map, codes, Option, Some, None, Result, Ok, Err}
use Rattle.std.specs.Char.{to_ascii_lowercase}
use Rattle.type_layout.specs.declared.texts.Place.{Place}
use Rattle.type_layout.specs.Words.{same_bytes}
use Rattle.tp_outside.specs.Folder.{Folder}
use Rattle.tp_lexer.specs.declared.token.Feature.TheVariants.{Units}
use Rattle.tp_lexer.specs.declared.token.LexError.{LexError}
use Rattle.tp_lexer.specs.declared.token.LexError.TheVariants as broken
use Rattle.tp_lexer.specs.declared.token.Text.{Text}
use Rattle.tp_lexer.specs.declared.token.Token.{Token}
use Rattle.tp_lexer.specs.Tokens.{Tokens, Breaks}
use Rattle.source_graph.specs.declared.error.At.{At}
use Rattle.source_graph.specs.declared.error.LexCause.TheVariants as cause
use Rattle.source_graph.specs.declared.error.GatherError.{GatherError}
use Rattle.source_graph.specs.declared.error.GatherError.TheVariants as refusal
use Rattle.source_graph.specs.declared.wanted.Wanted.{Wanted}
use Rattle.source_graph.specs.Texts.{defined, number_of, with_file, at}

-- ---- the file of a source

-- the name in lower case, and `.pas`
abbrev pub source_file : List ℕ → List ℕ
source_file name = map to_ascii_lowercase name ++ codes ".pas"

-- a unit of the full language that this profile leaves out
abbrev pub is_left_out : List ℕ → Bool
is_left_out name = same_bytes name (codes "CRT") || same_bytes name (codes "DOS") || same_bytes name (codes "GRAPH") || same_bytes name (codes "PRINTER")

-- Why a source without a file is refused. A unit that is left out is at fault at its name in the uses clause.
abbrev pub absent_at : List Text → List ℕ → Option Place → GatherError
absent_at texts name None = refusal.MissingFile (source_file name)
absent_at texts name (Some place) = cond (is_left_out name) (refusal.NotInProfile (at texts place) Units) (refusal.MissingFile (source_file name))

abbrev pub absent : List Text → Wanted → GatherError
absent texts wanted = absent_at texts wanted.name wanted.place

abbrev pub numbered : ℕ → Result (List Text) GatherError → Result (List Text × ℕ) GatherError
numbered number (Ok texts) = Ok (texts, number)
numbered number (Err error) = Err error

abbrev pub opened_by : Option ℕ → List Text → Result (List Text) GatherError → Result (List Text × ℕ) GatherError
opened_by (Some number) texts more = Ok (texts, number)
opened_by None texts more = numbered (length texts) more

-- the texts with that of a wanted source, which comes behind them where it is not among them, and its number
abbrev pub opened : Folder → List Text → Wanted → Result (List Text × ℕ) GatherError
opened held texts wanted =
    let file = source_file wanted.name in
    opened_by (number_of texts file) texts (with_file (absent texts wanted) texts file (held file))

-- ---- what a source includes

-- the texts with that of a file that is included
abbrev pub with_included : Folder → List Text → List ℕ → Result (List Text) GatherError
with_included held texts name = with_file (refusal.MissingFile name) texts name (held name)

-- the first file that text `main` includes and that has no text
abbrev pub Lacks : List Text → ℕ → List ℕ → Type 0
Lacks texts main name = (place : Place) × Breaks texts main defined (broken.MissingInclude place name)

-- Behind the texts come those of these files, one after another, each the first that text `main` lacks; then these are the texts.
abbrev pub Includes : Folder → ℕ → List Text → List (List ℕ) → List Text → Type 0
Includes held main texts [] after = texts ≡ after
Includes held main texts (name ∷ names) after =
    (more : List Text) × Lacks texts main name × (with_included held texts name ≡ Ok more) × Includes held main more names after

-- ---- the tokens of a source

-- With all that text `main` includes, these are the texts behind the first ones, and these its tokens.
pub record ComesTo (held : Folder) (main : ℕ) (first after : List Text) (tokens : List Token) : Type 0 where
  pub names : List (List ℕ)
  pub includes : Includes held main first names after
  pub lexed : Tokens after main defined tokens

-- what is said of a rule that is broken
abbrev pub refusal_of : List Text → LexError → GatherError
refusal_of texts broken.NoMemory = refusal.NoMemory
refusal_of texts (broken.BadCharacter place) = refusal.BadToken (at texts place) cause.BadCharacter
refusal_of texts (broken.OpenComment place) = refusal.BadToken (at texts place) cause.OpenComment
refusal_of texts (broken.OpenString place) = refusal.BadToken (at texts place) cause.OpenString
refusal_of texts (broken.BadNumber place) = refusal.BadToken (at texts place) cause.BadNumber
refusal_of texts (broken.BadDirective place) = refusal.BadToken (at texts place) cause.BadDirective
refusal_of texts (broken.OpenCondition place) = refusal.BadToken (at texts place) cause.OpenCondition
refusal_of texts (broken.MissingInclude place name) = refusal.MissingFile name
refusal_of texts (broken.NotInProfile place feature) = refusal.NotInProfile (at texts place) feature

-- Why a text has no tokens: what it includes is missing or too large, or another rule is broken.
abbrev pub IsCause : Folder → List Text → LexError → GatherError → Type 0
IsCause held texts (broken.MissingInclude place name) error = with_included held texts name ≡ Err error
IsCause held texts broken.NoMemory error = ⊥
IsCause held texts rule error = error ≡ refusal_of texts rule

-- the file that a text lacks is there, and these are the texts with it
abbrev pub IsMended : Folder → List Text → LexError → List Text → Type 0
IsMended held texts (broken.MissingInclude place name) more = with_included held texts name ≡ Ok more
IsMended held texts rule more = ⊥

-- Text `main` has no tokens, behind the first texts and some of what it includes.
pub record FailsBy (held : Folder) (main : ℕ) (first : List Text) (error : GatherError) : Type 0 where
  pub names : List (List ℕ)
  pub after : List Text
  pub includes : Includes held main first names after
  pub rule : LexError
  pub breaks : Breaks after main defined rule
  pub cause : IsCause held after rule error

-- The file of a wanted source is there, as text `main`, and all that it includes. Then these are the texts, and these its tokens.
pub record IsLexed (held : Folder) (texts : List Text) (wanted : Wanted) (after : List Text) (main : ℕ) (tokens : List Token) : Type 0 where
  pub first : List Text
  pub opens : opened held texts wanted ≡ Ok (first, main)
  pub comes : ComesTo held main first after tokens

-- The file of a wanted source is there, and it has no tokens.
pub record IsBroken (held : Folder) (error : GatherError) (texts : List Text) (wanted : Wanted) : Type 0 where
  pub first : List Text
  pub main : ℕ
  pub opens : opened held texts wanted ≡ Ok (first, main)
  pub fails : FailsBy held main first error

-- A source that is wanted, read from its file: its tree, or why it has none.
use Rattle.std.specs.Prelude.{◌≡◌, ◌⊎◌, ℕ, List, Err}
use Rattle.tp_outside.specs.Folder.{Folder}
use Rattle.tp_lexer.specs.declared.token.Text.{Text}
use Rattle.tp_lexer.specs.declared.token.Token.{Token}
use Rattle.syntax_tree.specs.Expressions.{Parsed}
use Rattle.syntax_tree.specs.source_tree.Sources.{of_tree}
use Rattle.tp_lexer.specs.source_directives.Directives.{directives_of}
use Rattle.tp_parser.specs.declared.error.ParseError.{ParseError}
use Rattle.tp_parser.specs.declared.error.ParseError.TheVariants as fault
use Rattle.tp_parser.specs.Parsing.{IsSource, IsFault}
use Rattle.source_graph.specs.declared.error.GatherError.{GatherError}
use Rattle.source_graph.specs.declared.error.GatherError.TheVariants as refusal
use Rattle.source_graph.specs.declared.sources.Source.{Source}
use Rattle.source_graph.specs.declared.wanted.Wanted.{Wanted}
use Rattle.source_graph.specs.Texts.{at, place_in}
use Rattle.source_graph.specs.Files.{opened, IsLexed, IsBroken}

-- The wanted source with its tree and what its directives say: its tokens spell the tree, and have these directives. The texts are then these.
pub record IsRead (held : Folder) (texts : List Text) (wanted : Wanted) (after : List Text) (source : Source) : Type 0 where
  pub named : source.name ≡ wanted.name
  pub tokens : List Token
  pub lexed : IsLexed held texts wanted after source.text tokens
  pub spelled : IsSource tokens (of_tree source.tree)
  pub said : source.says ≡ directives_of tokens

-- its file or one that it includes is missing or too large, or a token is at fault
abbrev pub IsUnreadable : Folder → GatherError → List Text → Wanted → Type 0
IsUnreadable held error texts wanted = (opened held texts wanted ≡ Err error) ⊎ IsBroken held error texts wanted

-- its tokens spell no tree
pub record SpellsNothing (held : Folder) (texts : List Text) (wanted : Wanted) : Type 0 where
  pub after : List Text
  pub main : ℕ
  pub tokens : List Token
  pub lexed : IsLexed held texts wanted after main tokens
  pub nothing : (tree : Parsed) → IsSource tokens tree → ⊥

-- what is said of a fault of the tokens of text `main`
abbrev pub fault_refusal : List Text → ℕ → List Token → ParseError → GatherError
fault_refusal texts main tokens fault.NoMemory = refusal.NoMemory
fault_refusal texts main tokens (fault.Syntax place) = refusal.Syntax (at texts (place_in main tokens place))
fault_refusal texts main tokens (fault.NotInProfile place feature) = refusal.NotInProfile (at texts (place_in main tokens place)) feature
fault_refusal texts main tokens (fault.TooDeep place) = refusal.TooDeep (at texts (place_in main tokens place))

-- its tokens spell no tree, and this is the first fault
pub record IsMisspelled (held : Folder) (error : GatherError) (texts : List Text) (wanted : Wanted) : Type 0 where
  pub after : List Text
  pub main : ℕ
  pub tokens : List Token
  pub lexed : IsLexed held texts wanted after main tokens
  pub nothing : (tree : Parsed) → IsSource tokens tree → ⊥
  pub fault : ParseError
  pub is_fault : IsFault tokens fault
  pub error_is : error ≡ fault_refusal after main tokens fault

-- The same kind of refusal, with all that it tells but which feature is left out; a fault of the files and out of memory are like any.
abbrev pub AreAlike : GatherError → GatherError → Type 0
AreAlike refusal.FilesFault y = Unit {0}
AreAlike refusal.NoMemory y = Unit {0}
AreAlike x refusal.FilesFault = Unit {0}
AreAlike x refusal.NoMemory = Unit {0}
AreAlike (refusal.NotInProfile x _) (refusal.NotInProfile y _) = x ≡ y
AreAlike x y = x ≡ y

-- What the words of a command line ask for.
use Rattle.std.specs.Prelude.{◌≡◌, ℕ, ◌≤◌, Bool, ◌&&◌, ◌||◌, ◌==◌, nat_le, IsTrue, List, [], ◌∷◌, Option, codes, Some, None}
use Rattle.std.specs.List.{list_all}
use Rattle.std.specs.Str.Parse.{IsNumeral, digits_value, without_leading_plus}
use Rattle.clap.specs.Words.{Row, Text, first_of}
use Rattle.type_layout.specs.Words.{IsName, spelled_by}
use Rattle.command_line.specs.declared.command.RunOptions.{RunOptions}
use Rattle.command_line.specs.declared.command.Command.{Command}
use Rattle.command_line.specs.declared.command.Command.TheVariants as commands
use Rattle.command_line.specs.Line.{faults, said}

-- a letter of either case, the underscore, or a digit
abbrev pub is_identifier_byte : ℕ → Bool
is_identifier_byte c = (nat_le 65 c && nat_le c 90) || (nat_le 97 c && nat_le c 122) || c == 95 || (nat_le 48 c && nat_le c 57)

-- The word is an identifier, a letter and then letters and digits, that stands for this name.
pub record IsNamed (word name : List ℕ) : Type 0 where
  pub letters : IsTrue (list_all is_identifier_byte word)
  pub first : IsName (spelled_by word)
  pub names : name ≡ spelled_by word

-- The word is this number in decimal digits, before which a plus may stand, and it is at most so great.
pub record IsNumber (most : ℕ) (word : List ℕ) (number : ℕ) : Type 0 where
  pub numeral : IsNumeral 10 (without_leading_plus word)
  pub value : number ≡ digits_value 10 (without_leading_plus word)
  pub small : number ≤ most

-- A name was said.
abbrev pub IsNameIn : Option Text → List ℕ → Type 0
IsNameIn None name = ⊥
IsNameIn (Some word) name = IsNamed word name

-- A number was said, or none.
abbrev pub IsNumberIn : ℕ → Option Text → Option ℕ → Type 0
IsNumberIn most None None = Unit {0}
IsNumberIn most (Some word) (Some number) = IsNumber most word number
IsNumberIn most None (Some number) = ⊥
IsNumberIn most (Some word) None = ⊥

-- The options say the size of the buffer in paragraphs, the limit on instructions, and how many paragraphs of overlays that live
-- returns need are kept and moved.
pub record AreOptions (rows : List Row) (options : RunOptions) : Type 0 where
  pub buffer : IsNumberIn 40960 (first_of (codes "buffer") rows) options.buffer
  pub limit : IsNumberIn 1000000000000000000 (first_of (codes "limit") rows) options.limit
  pub retry : IsNumberIn 40960 (first_of (codes "retry") rows) options.retry

-- The number of turns was said, or none.
abbrev pub AreTurns : List Row → Option ℕ → Type 0
AreTurns rows turns = IsNumberIn 1000000000000000000 (first_of (codes "turns") rows) turns

-- The line says `go`, the name of a program, and options of its run. A number of turns has no effect.
pub record IsGoIn (rows : List Row) (name : List ℕ) (options : RunOptions) : Type 0 where
  pub command : first_of (codes "command") rows ≡ Some (codes "go")
  pub named : IsNameIn (first_of (codes "name") rows) name
  pub are : AreOptions rows options
  pub turns : Option ℕ
  pub unused : AreTurns rows turns

-- It says `run`, the name of a program, and options. A number of turns has no effect.
pub record IsRunIn (rows : List Row) (name : List ℕ) (options : RunOptions) : Type 0 where
  pub command : first_of (codes "command") rows ≡ Some (codes "run")
  pub named : IsNameIn (first_of (codes "name") rows) name
  pub are : AreOptions rows options
  pub turns : Option ℕ
  pub unused : AreTurns rows turns

-- It says `mean`, the name of a program, and within how many turns. The options of `run` have no effect.
pub record IsMeanIn (rows : List Row) (name : List ℕ) (turns : Option ℕ) : Type 0 where
  pub command : first_of (codes "command") rows ≡ Some (codes "mean")
  pub named : IsNameIn (first_of (codes "name") rows) name
  pub within : AreTurns rows turns
  pub options : RunOptions
  pub unused : AreOptions rows options

abbrev pub IsCommandIn : List Row → Command → Type 0
IsCommandIn rows (commands.Go name options) = IsGoIn rows name options
IsCommandIn rows (commands.Run name options) = IsRunIn rows name options
IsCommandIn rows (commands.Mean name turns) = IsMeanIn rows name turns
IsCommandIn rows other = ⊥

-- The words fit the command line and ask for this.
pub record IsGo (words : List Text) (name : List ℕ) (options : RunOptions) : Type 0 where
  pub fits : faults words ≡ []
  pub says : IsGoIn (said words) name options

pub record IsRun (words : List Text) (name : List ℕ) (options : RunOptions) : Type 0 where
  pub fits : faults words ≡ []
  pub says : IsRunIn (said words) name options

pub record IsMean (words : List Text) (name : List ℕ) (turns : Option ℕ) : Type 0 where
  pub fits : faults words ≡ []
  pub says : IsMeanIn (said words) name turns

-- They ask what words there are, or which version this is: a single word, which fits no command line.
abbrev pub IsHelp : List Text → Type 0
IsHelp words = words ≡ codes "--help" ∷ []

abbrev pub IsVersion : List Text → Type 0
IsVersion words = words ≡ codes "--version" ∷ []

-- what a single word asks for
abbrev pub IsSingle : Text → Command → Type 0
IsSingle word commands.Help = word ≡ codes "--help"
IsSingle word commands.Version = word ≡ codes "--version"
IsSingle word other = ⊥

abbrev pub IsCommand : List Text → Command → Type 0
IsCommand words (commands.Go name options) = IsGo words name options
IsCommand words (commands.Run name options) = IsRun words name options
IsCommand words (commands.Mean name turns) = IsMean words name turns
IsCommand words commands.Help = IsHelp words
IsCommand words commands.Version = IsVersion words

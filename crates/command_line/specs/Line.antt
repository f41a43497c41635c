-- The command line that `tp` takes: two words, the command and a name, and options with a value each.
use Rattle.std.specs.Prelude.{Some, true, List, codes}
use Rattle.clap.specs.Words.{App, Rule, Row, Text, fault_of, matches_of, new_app, new_rule, with_rule}
use Rattle.clap.specs.Kinds.{Kinds}

-- a word by its place
abbrev pub word_rule : Text → Rule
word_rule id = record (new_rule id) { required = true }

-- a value behind the name of the option
abbrev pub option_rule : Text → Rule
option_rule id = record (new_rule id) { long = Some id }

-- no word stands before the command, and help is no option
abbrev pub bare : App
bare = record (new_app (codes "tp")) { top = record (new_app (codes "tp")).top { no_binary_name = true; disable_help_flag = true } }

abbrev pub command_line : App
command_line =
    with_rule (with_rule (with_rule (with_rule (with_rule (with_rule bare (word_rule (codes "command"))) (word_rule (codes "name")))
    (option_rule (codes "buffer"))) (option_rule (codes "limit"))) (option_rule (codes "retry"))) (option_rule (codes "turns"))

-- what is wrong with the words: nothing where they fit the command line
unfoldable pub faults : List Text → Kinds
faults words = fault_of command_line words

-- what they say where they fit
unfoldable pub said : List Text → List Row
said words = matches_of command_line words

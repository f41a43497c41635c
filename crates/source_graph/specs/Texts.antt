-- The texts of sources, in the order in which their files are read, and places in them.
use Rattle.std.specs.Prelude.{ℕ, ◌+◌, nat_lt, nat_eq, ◌==◌, ◌||◌, Bool, false, if◌then◌else◌, List, [], ◌∷◌, ◌++◌, length, map, sum, position, slice_get, codes, Option, Some, None, Result, Ok, Err}
use Rattle.std.specs.List.{list_any}
use Rattle.type_layout.specs.declared.texts.Place.{Place}
use Rattle.type_layout.specs.Words.{same_bytes}
use Rattle.tp_outside.specs.declared.faults.ReadError.{ReadError}
use Rattle.tp_outside.specs.declared.faults.ReadError.TheVariants as read_errors
use Rattle.tp_lexer.specs.declared.token.Text.{Text}
use Rattle.tp_lexer.specs.declared.token.Token.{Token}
use Rattle.source_graph.specs.declared.error.At.{At}
use Rattle.source_graph.specs.declared.error.GatherError.{GatherError}
use Rattle.source_graph.specs.declared.error.GatherError.TheVariants.{TooLarge, FilesFault, NoMemory}

-- the names that are defined in front of each source
abbrev pub defined : List (List ℕ)
defined = codes "VER55" ∷ codes "MSDOS" ∷ codes "CPU86" ∷ []

-- how many bytes texts have together
abbrev pub bytes_in : List Text → ℕ
bytes_in texts = sum (map (λ text. length text.bytes) texts)

-- the number of the text of a file
abbrev pub number_of : List Text → List ℕ → Option ℕ
number_of texts name = position (λ text. same_bytes text.name name) texts

-- The texts with one more behind them. One text has at most 1,048,576 bytes, and all together have at most 16,777,216.
abbrev pub with_text : List Text → List ℕ → List ℕ → Result (List Text) GatherError
with_text texts name bytes =
    if nat_lt 1048576 (length bytes) then Err (TooLarge (length bytes))
    else if nat_lt 16777216 (bytes_in texts + length bytes) then Err (TooLarge (bytes_in texts + length bytes))
    else Ok (texts ++ record { name = name; bytes = bytes } ∷ [])

-- `/`, `\` and `:` lead into other folders, and no file's name has a byte 0
abbrev pub is_outer : ℕ → Bool
is_outer c = c == 47 || c == 92 || c == 58 || c == 0

abbrev pub begins_with_dot : List ℕ → Bool
begins_with_dot [] = false
begins_with_dot (c ∷ name) = c == 46

-- it is the name of no file that lies in the folder itself
abbrev pub leads_out : List ℕ → Bool
leads_out name = begins_with_dot name || list_any is_outer name

-- The texts with that of a file which holds these bytes, and the refusal where the folder has no such file. A name that leads out of it
-- is the name of none.
abbrev pub with_file : GatherError → List Text → List ℕ → Option (List ℕ) → Result (List Text) GatherError
with_file absent texts name None = Err absent
with_file absent texts name (Some bytes) = if leads_out name then Err absent else with_text texts name bytes

-- the name of the file of a text, and none where there is no text
abbrev pub name_or_none : Option Text → List ℕ
name_or_none None = []
name_or_none (Some text) = text.name

-- a place in the texts, by its file
abbrev pub at : List Text → Place → At
at texts place = record { file = name_or_none (slice_get texts place.text); line = place.line; column = place.column }

-- Where a fault stands in the tokens of text `main`. Where there is no token it stands in that text.
abbrev pub place_in : ℕ → List Token → Place → Place
place_in main [] place = record { text = main; line = place.line; column = place.column }
place_in main (token ∷ tokens) place = place

-- a fault of the files, or out of memory
abbrev pub read_refusal : ReadError → GatherError
read_refusal read_errors.Failed = FilesFault
read_refusal read_errors.NoMemory = NoMemory

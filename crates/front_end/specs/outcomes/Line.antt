-- The exit status of an outcome, and the line that standard error ends with.
use Rattle.std.specs.Prelude.{ℕ, List, [], ◌∷◌, ◌++◌, ◌/◌, ◌%◌, false, codes, decimal}
use Rattle.std.specs.Fmt.{digit_glyph}
use Rattle.cpu_8086.specs.declared.process.Why.{Why}
use Rattle.cpu_8086.specs.declared.process.Why.TheVariants as why
use Rattle.mz_file.specs.declared.cause.ExeCause.{ExeCause}
use Rattle.mz_file.specs.declared.cause.ExeCause.TheVariants as cause
use Rattle.source_graph.specs.declared.error.At.{At}
use Rattle.front_end.specs.declared.outcomes.refusal.Refusal.{Refusal}
use Rattle.front_end.specs.declared.outcomes.refusal.Refusal.TheVariants as refusal
use Rattle.front_end.specs.declared.outcomes.outcome.Outcome.{Outcome}
use Rattle.front_end.specs.declared.outcomes.outcome.Outcome.TheVariants as outcome
use Rattle.front_end.specs.outcomes.Words.{feature_text, lex_cause_text, what_text, check_kind_text, class_kind_text}

abbrev pub status_of : Outcome → ℕ
status_of outcome.Done = 0
status_of (outcome.Program code) = code
status_of (outcome.Undefined act) = 249
status_of outcome.TurnLimit = 250
status_of (outcome.InstructionLimit taken) = 251
status_of (outcome.Refused r) = 252
status_of (outcome.Stopped cs ip w) = 253
status_of outcome.InputFault = 254
status_of outcome.OutputFault = 254
status_of outcome.ErrorsFault = 254
status_of outcome.FilesFault = 254
status_of outcome.NoMemory = 255

-- a word as four hexadecimal digits in lower case
abbrev pub hexadecimal : ℕ → List ℕ
hexadecimal w = digit_glyph false (w / 4096 % 16) ∷ digit_glyph false (w / 256 % 16) ∷ digit_glyph false (w / 16 % 16) ∷ digit_glyph false (w % 16) ∷ []

-- file, line and column, with colons between them
abbrev pub place_text : At → List ℕ
place_text at = at.file ++ codes ":" ++ decimal at.line ++ codes ":" ++ decimal at.column

abbrev pub why_text : Why → List ℕ
why_text why.Opcode = codes "Opcode"
why_text why.Divide = codes "Divide"
why_text (why.Interrupt n) = codes "Interrupt " ++ decimal n
why_text (why.Function n) = codes "Function " ++ decimal n
why_text why.NoStub = codes "NoStub"
why_text (why.BadChain n) = codes "BadChain " ++ decimal n
why_text (why.ShortOverlay n) = codes "ShortOverlay " ++ decimal n

abbrev pub cause_text : ExeCause → List ℕ
cause_text cause.Short = codes "Short"
cause_text cause.NotMz = codes "NotMz"
cause_text cause.BadPages = codes "BadPages"
cause_text (cause.BadRelocation number) = codes "BadRelocation " ++ decimal number
cause_text cause.NoBlock = codes "NoBlock"

-- a word behind others
abbrev pub behind : List ℕ → List ℕ
behind word = codes " " ++ word

abbrev pub numbered : List ℕ → ℕ → List ℕ
numbered name number = name ++ behind (decimal number)

abbrev pub named : List ℕ → List ℕ → List ℕ
named name word = name ++ behind word

abbrev pub placed : List ℕ → At → List ℕ
placed name at = name ++ behind (place_text at)

-- the name of a refusal, and its fields
abbrev pub refusal_text : Refusal → List ℕ
refusal_text refusal.Usage = codes "Usage"
refusal_text (refusal.MissingFile name) = named (codes "MissingFile") name
refusal_text (refusal.TooLarge what number) = numbered (named (codes "TooLarge") (what_text what)) number
refusal_text (refusal.BadToken at cause) = named (placed (codes "BadToken") at) (lex_cause_text cause)
refusal_text (refusal.Syntax at) = placed (codes "Syntax") at
refusal_text (refusal.NotInProfile at feature) = named (placed (codes "NotInProfile") at) (feature_text feature)
refusal_text (refusal.TooDeep at) = placed (codes "TooDeep") at
refusal_text (refusal.Circular unit) = named (codes "Circular") unit
refusal_text (refusal.CheckRefused at kind rule) = numbered (named (placed (codes "CheckRefused") at) (check_kind_text kind)) rule
refusal_text (refusal.ClassRefused kind name) = named (named (codes "ClassRefused") (class_kind_text kind)) name
refusal_text (refusal.VersionMismatch unit import) = named (named (codes "VersionMismatch") unit) import
refusal_text (refusal.NotOverlayable unit) = named (codes "NotOverlayable") unit
refusal_text (refusal.NotExecutable c) = codes "NotExecutable " ++ cause_text c
refusal_text (refusal.OverlayFileDamaged at) = numbered (codes "OverlayFileDamaged") at
refusal_text (refusal.OverlayMismatch overlay) = numbered (codes "OverlayMismatch") overlay
refusal_text (refusal.BufferTooSmall need have) = numbered (numbered (codes "BufferTooSmall") need) have
refusal_text (refusal.MemoryTooSmall need) = numbered (codes "MemoryTooSmall") need

-- The line that an outcome is due on standard error, where it is due one: `tp: `, what it is with its fields, byte 10.
abbrev pub line_of : Outcome → List ℕ
line_of outcome.Done = []
line_of (outcome.Program code) = []
line_of (outcome.Undefined act) = codes "tp: " ++ numbered (codes "Undefined") act ++ codes "\n"
line_of outcome.TurnLimit = codes "tp: TurnLimit\n"
line_of (outcome.InstructionLimit taken) = codes "tp: InstructionLimit " ++ decimal taken ++ codes "\n"
line_of (outcome.Refused r) = codes "tp: " ++ refusal_text r ++ codes "\n"
line_of (outcome.Stopped cs ip w) = codes "tp: Stopped " ++ hexadecimal cs ++ codes ":" ++ hexadecimal ip ++ codes " " ++ why_text w ++ codes "\n"
line_of outcome.InputFault = codes "tp: InputFault\n"
line_of outcome.OutputFault = codes "tp: OutputFault\n"
line_of outcome.ErrorsFault = []
line_of outcome.FilesFault = codes "tp: FilesFault\n"
line_of outcome.NoMemory = codes "tp: NoMemory\n"

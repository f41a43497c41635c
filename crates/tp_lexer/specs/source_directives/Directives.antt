-- What the directives of a source say for the whole of it.
use Rattle.std.specs.Prelude.{ℕ, Bool, true, false, cond, min, codes, List, [], ◌∷◌, ◌++◌, Option, Some, None}
use Rattle.type_layout.specs.declared.texts.Place.{Place}
use Rattle.type_layout.specs.Words.{same_bytes}
use Rattle.tp_lexer.specs.declared.token.TokenKind.{TokenKind}
use Rattle.tp_lexer.specs.declared.token.TokenKind.TheVariants as t
use Rattle.tp_lexer.specs.declared.token.Token.{Token}
use Rattle.tp_lexer.specs.declared.source_directives.collected.Memory.{Memory}
use Rattle.tp_lexer.specs.declared.source_directives.collected.Overlaid.{Overlaid}
use Rattle.tp_lexer.specs.declared.source_directives.collected.Directives.{Directives}

-- ---- the stack and the heap of a program

abbrev pub usual_memory : Memory
usual_memory = record { stack = 16384; heap = 196608 }

-- A heap has at most 196,608 bytes.
abbrev pub memory_behind : Memory → TokenKind → Memory
memory_behind now (t.Memory stack most) = record { stack = stack; heap = min most 196608 }
memory_behind now kind = now

-- the last directive counts
abbrev pub memory_of : Memory → List Token → Memory
memory_of now [] = now
memory_of now (token ∷ tokens) = memory_of (memory_behind now token.kind) tokens

-- ---- where a source begins

abbrev pub first_by : TokenKind → Place → Option Place → Option Place
first_by (t.Switch now) place rest = rest
first_by (t.Memory stack most) place rest = rest
first_by (t.Overlaid name) place rest = rest
first_by kind place rest = Some place

-- the place of the first token that is no directive
abbrev pub first_place : List Token → Option Place
first_place [] = None
first_place (token ∷ tokens) = first_by token.kind token.place (first_place tokens)

-- ---- units that may be overlaid, and those that are

abbrev pub begins_by : TokenKind → Bool → Bool
begins_by (t.Switch now) rest = rest
begins_by (t.Memory stack most) rest = rest
begins_by (t.Overlaid name) rest = rest
begins_by (t.Reserved name) rest = same_bytes name (codes "UNIT")
begins_by kind rest = false

-- the first token that is no directive begins a unit
abbrev pub begins_unit : List Token → Bool
begins_unit [] = false
begins_unit (token ∷ tokens) = begins_by token.kind (begins_unit tokens)

-- Whether overlays are allowed at the first word `interface`, from a token of this kind on. They are allowed or not in front of it,
-- and this holds of what follows where they are and where they aren't.
abbrev pub opens_by : Bool → TokenKind → (Bool → Bool) → Bool
opens_by now (t.Switch next) rest = rest next.o
opens_by now (t.Reserved name) rest = cond (same_bytes name (codes "INTERFACE")) now (rest now)
opens_by now kind rest = rest now

abbrev pub opens_overlayable : Bool → List Token → Bool
opens_overlayable now [] = false
opens_overlayable now (token ∷ tokens) = opens_by now token.kind (λ next. opens_overlayable next tokens)

abbrev pub overlaid_by : Place → TokenKind → List Overlaid
overlaid_by place (t.Overlaid name) = (record { name = name; place = place }) ∷ []
overlaid_by place kind = []

-- the units that are overlaid, each where that is said
abbrev pub overlaid_in : List Token → List Overlaid
overlaid_in [] = []
overlaid_in (token ∷ tokens) = overlaid_by token.place token.kind ++ overlaid_in tokens

-- ---- sources

-- Directives on memory and on overlays have no effect in a unit.
abbrev pub of_unit : List Token → Directives
of_unit tokens = record { first = first_place tokens; stack = usual_memory.stack; heap = usual_memory.heap; overlaid = []; overlayable = opens_overlayable false tokens }

abbrev pub of_program : Memory → List Token → Directives
of_program memory tokens = record { first = first_place tokens; stack = memory.stack; heap = memory.heap; overlaid = overlaid_in tokens; overlayable = false }

unfoldable pub directives_of : List Token → Directives
directives_of tokens = cond (begins_unit tokens) (of_unit tokens) (of_program (memory_of usual_memory tokens) tokens)

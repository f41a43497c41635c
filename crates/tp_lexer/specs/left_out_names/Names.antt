-- Names that the full language has and this profile leaves out.
use Rattle.std.specs.Prelude.{ℕ, cond, codes, List, [], ◌∷◌, Option, Some, None}
use Rattle.type_layout.specs.Words.{same_bytes}
use Rattle.tp_lexer.specs.declared.token.Feature.{Feature}
use Rattle.tp_lexer.specs.declared.token.Feature.TheVariants.{Reals, Files, Addresses, HeapCalls, Blocks, Randoms, Ends, Params, Seeks, Objects, Overlays, Units}

-- each name with the feature that it belongs to
unfoldable pub left_out : List (List ℕ × Feature)
left_out =
    (codes "REAL", Reals) ∷ (codes "SINGLE", Reals) ∷ (codes "DOUBLE", Reals) ∷ (codes "EXTENDED", Reals) ∷ (codes "COMP", Reals) ∷
    (codes "TEXT", Files) ∷ (codes "ASSIGN", Files) ∷ (codes "RESET", Files) ∷ (codes "REWRITE", Files) ∷ (codes "APPEND", Files) ∷ (codes "CLOSE", Files) ∷ (codes "INPUT", Files) ∷ (codes "OUTPUT", Files) ∷ (codes "IORESULT", Files) ∷
    (codes "POINTER", Addresses) ∷ (codes "PTR", Addresses) ∷ (codes "ADDR", Addresses) ∷ (codes "SEG", Addresses) ∷ (codes "OFS", Addresses) ∷ (codes "MEM", Addresses) ∷ (codes "MEMW", Addresses) ∷ (codes "MEML", Addresses) ∷
    (codes "GETMEM", HeapCalls) ∷ (codes "FREEMEM", HeapCalls) ∷ (codes "MARK", HeapCalls) ∷ (codes "RELEASE", HeapCalls) ∷ (codes "MEMAVAIL", HeapCalls) ∷ (codes "MAXAVAIL", HeapCalls) ∷ (codes "HEAPERROR", HeapCalls) ∷
    (codes "FILLCHAR", Blocks) ∷ (codes "MOVE", Blocks) ∷
    (codes "RANDOM", Randoms) ∷ (codes "RANDOMIZE", Randoms) ∷
    (codes "EXITPROC", Ends) ∷ (codes "RUNERROR", Ends) ∷
    (codes "PARAMCOUNT", Params) ∷ (codes "PARAMSTR", Params) ∷
    (codes "SEEKEOF", Seeks) ∷ (codes "SEEKEOLN", Seeks) ∷
    (codes "TYPEOF", Objects) ∷ (codes "FAIL", Objects) ∷
    (codes "OVRGETBUF", Overlays) ∷ (codes "OVRINITEMS", Overlays) ∷ (codes "OVRSETRETRY", Overlays) ∷
    (codes "CRT", Units) ∷ (codes "DOS", Units) ∷ (codes "GRAPH", Units) ∷ (codes "PRINTER", Units) ∷
    []

-- the feature of the first row with the name
abbrev pub feature_in : List (List ℕ × Feature) → List ℕ → Option Feature
feature_in [] name = None
feature_in (row ∷ rows) name = cond (same_bytes name row.0) (Some row.1) (feature_in rows name)

abbrev pub feature_of : List ℕ → Option Feature
feature_of name = feature_in left_out name

-- What is known without a declaration.
use Rattle.std.specs.Prelude.{ℕ, ◌+◌, pos, ℤ, ◌&&◌, not, cond, codes, List, [], ◌∷◌, ◌++◌}
use Rattle.type_layout.specs.declared.definitions.TypeId.{TypeId}
use Rattle.type_layout.specs.declared.definitions.Host.{Host}
use Rattle.type_layout.specs.declared.definitions.Host.TheVariants as host
use Rattle.type_layout.specs.declared.definitions.TypeDef.{TypeDef}
use Rattle.type_layout.specs.declared.definitions.TypeDef.TheVariants.{Ordinal, Str, SetOf}
use Rattle.type_layout.specs.Storage.{least_of, greatest_of}
use Rattle.type_layout.specs.Table.{Table}
use Rattle.type_layout.specs.Words.{is_name}
use Rattle.typed_tree.specs.declared.expressions.Value.TheVariants as value
use Rattle.typed_tree.specs.Standard as routine
use Rattle.scopes.specs.declared.entries.Entry.{Entry}
use Rattle.scopes.specs.declared.entries.Entry.TheVariants.{Const, Ty, Std}
use Rattle.scopes.specs.Symbols.{SymbolList, has}
use Rattle.scopes.specs.Growth.{Addition, empty, grown}
use Rattle.scopes.specs.Environment.{Environment}

-- ---- types

abbrev pub system : List ℕ
system = codes "SYSTEM"

-- all values of a host
abbrev pub whole : Host → TypeDef
whole host = Ordinal host (least_of host) (greatest_of host)

abbrev pub type_id : ℕ → TypeId
type_id number = record { 0 = number }

-- the predeclared types by their ids: the ordinal ones, string, and the sets of 0..255, of Char and of Boolean
abbrev pub type_list : List TypeDef
type_list =
    whole host.ShortInt ∷ whole host.Byte ∷ whole host.Integer ∷ whole host.Word ∷ whole host.LongInt ∷
    whole host.Char ∷ whole host.Boolean ∷ Str 255 ∷ SetOf (type_id 1) ∷ SetOf (type_id 5) ∷ SetOf (type_id 6) ∷ []

-- types of SYSTEM, with numbers that begin with this one
abbrev pub of_system : ℕ → List TypeDef → List Addition
of_system number [] = []
of_system number (one ∷ types) = (record { origin = system; number = number; one = one }) ∷ of_system (number + 1) types

abbrev pub type_table : Table
type_table = grown empty (of_system 0 type_list)

-- ---- names

-- a name at the end, where these bytes are one and it is new
unfoldable pub with_known : SymbolList → List ℕ → Entry → SymbolList
with_known symbols name entry = cond (is_name name && not (has symbols name)) (symbols ++ (name, entry) ∷ []) symbols

unfoldable pub with_types : SymbolList → ℕ → List (List ℕ) → SymbolList
with_types symbols number [] = symbols
with_types symbols number (name ∷ names) = with_types (with_known symbols name (Ty (type_id number))) (number + 1) names

unfoldable pub with_standard : SymbolList → List (List ℕ × ℕ) → SymbolList
with_standard symbols [] = symbols
with_standard symbols (row ∷ rows) = with_standard (with_known symbols row.0 (Std row.1)) rows

abbrev pub number_entry : TypeId → ℤ → Entry
number_entry ty amount = Const ty (value.Number amount)

unfoldable pub with_constants : SymbolList → SymbolList
with_constants symbols =
    with_known (with_known (with_known (with_known symbols
    (codes "MAXINT") (number_entry (type_id 2) (pos 32767)))
    (codes "MAXLONGINT") (number_entry (type_id 4) (pos 2147483647)))
    (codes "FALSE") (number_entry (type_id 6) (pos 0)))
    (codes "TRUE") (number_entry (type_id 6) (pos 1))

-- the predeclared types that have names, by their ids
unfoldable pub type_names : List (List ℕ)
type_names =
    codes "SHORTINT" ∷ codes "BYTE" ∷ codes "INTEGER" ∷ codes "WORD" ∷ codes "LONGINT" ∷ codes "CHAR" ∷ codes "BOOLEAN" ∷ []

-- the names of the standard routines, with their numbers
unfoldable pub standard : List (List ℕ × ℕ)
standard =
    (codes "ABS", routine.abs) ∷ (codes "SQR", routine.sqr) ∷ (codes "ODD", routine.odd) ∷ (codes "ORD", routine.ord) ∷
    (codes "CHR", routine.chr) ∷ (codes "SUCC", routine.succ) ∷ (codes "PRED", routine.pred) ∷ (codes "INC", routine.inc) ∷
    (codes "DEC", routine.dec) ∷ (codes "HI", routine.hi) ∷ (codes "LO", routine.lo) ∷ (codes "SWAP", routine.swap) ∷
    (codes "SIZEOF", routine.size_of) ∷ (codes "UPCASE", routine.up_case) ∷ (codes "LENGTH", routine.length) ∷
    (codes "COPY", routine.copy) ∷ (codes "DELETE", routine.delete) ∷ (codes "INSERT", routine.insert) ∷
    (codes "CONCAT", routine.concat) ∷ (codes "POS", routine.pos) ∷ (codes "STR", routine.str) ∷ (codes "VAL", routine.val) ∷
    (codes "WRITE", routine.write) ∷ (codes "WRITELN", routine.write_ln) ∷ (codes "READ", routine.read) ∷
    (codes "READLN", routine.read_ln) ∷ (codes "EOF", routine.eof) ∷ (codes "EOLN", routine.eoln) ∷
    (codes "NEW", routine.new) ∷ (codes "DISPOSE", routine.dispose) ∷ (codes "HALT", routine.halt) ∷
    (codes "EXIT", routine.exit) ∷
    []

unfoldable pub predeclared : SymbolList
predeclared = with_standard (with_constants (with_types [] 0 type_names)) standard

-- the scope of a source without used units, before its first block
abbrev pub first : List ℕ → Environment
first name = record { types = type_table; units = name ∷ []; predeclared = predeclared; used = []; seen = 0; blocks = [] }

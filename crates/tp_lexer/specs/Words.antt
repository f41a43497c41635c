-- Words, and those that are reserved.
use Rattle.std.specs.Prelude.{ℕ, Bool, List, [], ◌∷◌, codes, nat_eq, if◌then◌else◌, Option, Some, None}
use Rattle.std.specs.List.{list_any}
use Rattle.std.specs.Cmp.Lexicographic.{pointwise}
use Rattle.type_layout.specs.Words.{is_name, spelled_by}
use Rattle.tp_lexer.specs.declared.token.TokenKind.{TokenKind}
use Rattle.tp_lexer.specs.declared.token.TokenKind.TheVariants as t

-- the name that bytes spell, where they spell one
abbrev pub name_of : List ℕ → Option (List ℕ)
name_of bytes = if is_name (spelled_by bytes) then Some (spelled_by bytes) else None

-- the words that no source may declare
abbrev pub reserved : List (List ℕ)
reserved = codes "AND" ∷ codes "ARRAY" ∷ codes "BEGIN" ∷ codes "CASE" ∷ codes "CONST" ∷ codes "CONSTRUCTOR" ∷
    codes "DESTRUCTOR" ∷ codes "DIV" ∷ codes "DO" ∷ codes "DOWNTO" ∷ codes "ELSE" ∷ codes "END" ∷
    codes "FILE" ∷ codes "FOR" ∷ codes "FUNCTION" ∷ codes "GOTO" ∷ codes "IF" ∷ codes "IMPLEMENTATION" ∷
    codes "IN" ∷ codes "INLINE" ∷ codes "INTERFACE" ∷ codes "LABEL" ∷ codes "MOD" ∷ codes "NIL" ∷
    codes "NOT" ∷ codes "OBJECT" ∷ codes "OF" ∷ codes "OR" ∷ codes "PACKED" ∷ codes "PROCEDURE" ∷
    codes "PROGRAM" ∷ codes "RECORD" ∷ codes "REPEAT" ∷ codes "SET" ∷ codes "SHL" ∷ codes "SHR" ∷
    codes "STRING" ∷ codes "THEN" ∷ codes "TO" ∷ codes "TYPE" ∷ codes "UNIT" ∷ codes "UNTIL" ∷
    codes "USES" ∷ codes "VAR" ∷ codes "VIRTUAL" ∷ codes "WHILE" ∷ codes "WITH" ∷ codes "XOR" ∷
    []

abbrev pub is_reserved : List ℕ → Bool
is_reserved name = list_any (pointwise nat_eq name) reserved

-- the token of a word with this name
abbrev pub word_of : List ℕ → TokenKind
word_of name = if is_reserved name then t.Reserved name else t.Word name

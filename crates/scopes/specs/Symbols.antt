-- Tables of names.
use Rattle.std.specs.Prelude.{ℕ, Bool, List, Option, is_some}
use Rattle.std.specs.Map.{lookup}
use Rattle.type_layout.specs.Words.{same_bytes}
use Rattle.scopes.specs.declared.entries.Entry.{Entry}

-- names with their entries, in order of declaration
abbrev pub SymbolList : Type 0
SymbolList = List (List ℕ × Entry)

abbrev pub entry_of : SymbolList → List ℕ → Option Entry
entry_of symbols name = lookup (same_bytes name) symbols

abbrev pub has : SymbolList → List ℕ → Bool
has symbols name = is_some (entry_of symbols name)

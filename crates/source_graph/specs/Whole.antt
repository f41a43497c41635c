-- What holds of the sources of a program: laws of the walk.
use Rattle.std.specs.Prelude.{◌≡◌, ◌≤◌, ℕ, Bool, true, false, List, [], ◌∷◌, ◌++◌, Contains, Some}
use Rattle.std.specs.List.{All, list_any}
use Rattle.type_layout.specs.Words.{same_bytes}
use Rattle.tp_outside.specs.Folder.{Folder}
use Rattle.tp_lexer.specs.declared.token.Text.{Text}
use Rattle.source_graph.specs.declared.sources.Source.{Source}
use Rattle.source_graph.specs.declared.wanted.Wanted.{Wanted}
use Rattle.source_graph.specs.Texts.{bytes_in, leads_out}
use Rattle.source_graph.specs.Walk.{start, wanted_by, names_of, is_passed, Gathers}

-- the text is what its file holds
abbrev pub IsFile : Folder → Text → Type 0
IsFile held text = held text.name ≡ Some text.bytes

-- its file lies in the folder itself
abbrev pub IsInside : Text → Type 0
IsInside text = leads_out text.name ≡ false

-- each source is wanted, at first by what is wanted, and then by a source before it
abbrev pub AreWanted : List Wanted → List Source → Type 0
AreWanted wanted [] = Unit {0}
AreWanted wanted (source ∷ sources) =
    (unit : Wanted) × Contains wanted unit × (unit.name ≡ source.name) × AreWanted (wanted ++ wanted_by source) sources

-- none has the name of one that was met, or of one before it
abbrev pub AreNew : List (List ℕ) → List Source → Type 0
AreNew met [] = Unit {0}
AreNew met (source ∷ sources) = (list_any (same_bytes source.name) met ≡ false) × AreNew (met ++ source.name ∷ []) sources

-- a source is one of these, or always there
abbrev pub AreThere : List Source → List Wanted → Type 0
AreThere sources wanted = All (λ unit. is_passed (names_of sources) unit ≡ true) wanted

pub record IsWhole (held : Folder) (name : List ℕ) (texts : List Text) (sources : List Source) : Type 0 where
  pub files : All (IsFile held) texts
  pub inside : All IsInside texts
  pub small : bytes_in texts ≤ 16777216
  -- the program is there, and all that one of the sources uses
  pub program : AreThere sources (start name ∷ [])
  pub used : All (λ source. AreThere sources (wanted_by source)) sources
  -- each is the program or used by one before it, and none is there twice
  pub wanted : AreWanted (start name ∷ []) sources
  pub once : AreNew [] sources

abbrev pub IsWholeLaw : Type 0
IsWholeLaw = (held : Folder) (name : List ℕ) (texts : List Text) (sources : List Source) → Gathers held name texts sources → IsWhole held name texts sources

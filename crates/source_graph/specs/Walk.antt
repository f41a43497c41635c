-- The sources of a program: a walk over uses, depth first.
use Rattle.std.specs.Prelude.{◌≡◌, ◌⊎◌, ℕ, ◌||◌, Bool, false, cond, List, [], ◌∷◌, ◌++◌, map, codes, Option, Some, None}
use Rattle.std.specs.List.{list_any}
use Rattle.type_layout.specs.declared.texts.Place.{Place}
use Rattle.type_layout.specs.Words.{same_bytes}
use Rattle.tp_outside.specs.Folder.{Folder}
use Rattle.tp_lexer.specs.declared.token.Text.{Text}
use Rattle.syntax_tree.specs.declared.identifier.Identifier.{Identifier}
use Rattle.syntax_tree.specs.source_tree.Sources.{used}
use Rattle.source_graph.specs.declared.error.GatherError.{GatherError}
use Rattle.source_graph.specs.declared.error.GatherError.TheVariants.{FilesFault, NoMemory}
use Rattle.source_graph.specs.declared.sources.Source.{Source}
use Rattle.source_graph.specs.declared.wanted.Wanted.{Wanted}
use Rattle.source_graph.specs.Sources.{IsRead, IsUnreadable, IsMisspelled}

-- the program itself, which no clause names
abbrev pub start : List ℕ → Wanted
start name = record { name = name; place = None }

-- a unit at its name in a uses clause
abbrev pub wanted_at : Identifier → Wanted
wanted_at unit = record { name = unit.name; place = Some unit.position.place }

-- the units that a source uses, those of its interface part first, in order of the clauses
abbrev pub wanted_by : Source → List Wanted
wanted_by source = map wanted_at (used source.tree)

abbrev pub names_of : List Source → List (List ℕ)
names_of sources = map (λ source. source.name) sources

-- the units OVERLAY and SYSTEM are always there, and no file of theirs is looked for
abbrev pub is_predeclared : Option Place → List ℕ → Bool
is_predeclared None name = false
is_predeclared (Some place) name = same_bytes name (codes "OVERLAY") || same_bytes name (codes "SYSTEM")

-- a source that was met, or is always there, is passed over
abbrev pub is_passed : List (List ℕ) → Wanted → Bool
is_passed met wanted = list_any (same_bytes wanted.name) met || is_predeclared wanted.place wanted.name

-- what is wanted from the first that is not passed over on
abbrev pub due : List (List ℕ) → List Wanted → List Wanted
due met [] = []
due met (wanted ∷ more) = cond (is_passed met wanted) (due met more) (wanted ∷ more)

-- These sources are read one after another, each the first that is due, and the units that it uses are due before the
-- others. Then these are the texts, and this is due.
abbrev pub Walks : Folder → List Text → List (List ℕ) → List Wanted → List Source → List Text → List Wanted → Type 0
Walks held texts met wanted [] after left = (texts ≡ after) × (due met wanted ≡ left)
Walks held texts met wanted (source ∷ sources) after left =
    (next : Wanted) × (others : List Wanted) × (now : List Text) × (due met wanted ≡ next ∷ others) × IsRead held texts next now source
    × Walks held now (met ++ source.name ∷ []) (wanted_by source ++ others) sources after left

-- One source more is read, and the units that it uses are wanted before the others.
pub record IsMet (held : Folder) (texts : List Text) (next : Wanted) (sources : List Source) (wanted : List Wanted) (after : List Text) (more : List Source) (now : List Wanted) : Type 0 where
  pub source : Source
  pub read : IsRead held texts next after source
  pub sources_are : more ≡ sources ++ source ∷ []
  pub wanted_are : now ≡ wanted_by source ++ wanted

-- the texts and the sources of the program of this name: nothing more is due
abbrev pub Gathers : Folder → List ℕ → List Text → List Source → Type 0
Gathers held name texts sources = Walks held [] [] (start name ∷ []) sources texts []

-- the walk comes to a source of which this holds
abbrev pub Meets : Folder → List ℕ → (List Text → Wanted → Type 0) → Type 0
Meets held name P =
    (sources : List Source) × (texts : List Text) × (next : Wanted) × (others : List Wanted)
    × Walks held [] [] (start name ∷ []) sources texts (next ∷ others) × P texts next

-- why the sources of a program are refused: the first that is not read, and its cause
abbrev pub IsRefused : Folder → List ℕ → GatherError → Type 0
IsRefused held name error = Meets held name (IsUnreadable held error) ⊎ Meets held name (IsMisspelled held error)

-- the fact holds, unless the error is a fault of the files or out of memory
abbrev pub Unless : GatherError → Type 0 → Type 0
Unless FilesFault P = Unit {0}
Unless NoMemory P = Unit {0}
Unless error P = P

-- A unit while it is read: what is known, its variables, and its routines by their numbers.
use Rattle.std.specs.Prelude.{ℕ, zero, suc, ◌+◌, List, [], ◌∷◌, ◌++◌, map, Option, Some, None, length}
use Rattle.std.specs.Option.{option_map}
use Rattle.type_layout.specs.declared.definitions.TypeId.{TypeId}
use Rattle.type_layout.specs.declared.texts.Place.{Place}
use Rattle.typed_tree.specs.declared.units.Global.{Global}
use Rattle.typed_tree.specs.Statements.{Statement, view_stmt}
use Rattle.scopes.specs.Members.{narrow}
use Rattle.scopes.specs.Environment.{Environment}
use Rattle.declaration_checker.specs.declared.declarations.homes.Home.{Home}
use Rattle.declaration_checker.specs.declared.declarations.homes.Home.TheVariants as home
use Rattle.declaration_checker.specs.declarations.Progress.{Progress, progress, level_of}
use Rattle.tp_check_decl.specs.declared.routines.drafts.Announced.{Announced}
use Rattle.tp_check_decl.specs.declared.routines.drafts.Made.{Made}
use Rattle.tp_check_decl.specs.declared.routines.drafts.Slot.{Slot}
use Rattle.tp_check_decl.specs.declared.routines.drafts.Draft as code
use Rattle.tp_check_decl.specs.declared.routines.drafts.Site.{Site}

-- what the block of a routine makes: the variables that it declares itself, and its statements, behind a header at this place
pub record Done : Type 0 where
  pub place : Place
  pub locals : List TypeId
  pub body : Statement

-- a routine by what its first header tells of it, and by its block, once that was read
pub record Numbered : Type 0 where
  pub first : Announced
  pub done : Option Done

abbrev pub view_made : Made → Done
view_made one = record { place = one.place; locals = one.locals; body = view_stmt one.body }

abbrev pub view_slot : Slot → Numbered
view_slot one = record { first = one.first; done = option_map view_made one.made }

-- A routine's number is its place among the routines. They are in the order of their first headers.
pub record Drafted : Type 0 where
  pub scope : Environment
  pub globals : List Global
  pub routines : List Numbered

abbrev pub drafted : Environment → code.Draft → Drafted
drafted g draft = record { scope = g; globals = draft.globals; routines = map view_slot draft.slots.items }

-- the same with more names or types
abbrev pub knowing : Drafted → Environment → Drafted
knowing d g = record { scope = g; globals = d.globals; routines = d.routines }

-- A number that 32 bits can't hold stays at the greatest.
abbrev pub next_number : Drafted → ℕ
next_number d = narrow (length d.routines)

abbrev pub announcing : Drafted → Announced → Drafted
announcing d one = record { scope = d.scope; globals = d.globals; routines = d.routines ++ (record { first = one; done = None }) ∷ [] }

-- the same with further routines
abbrev pub having : Drafted → List Numbered → Drafted
having d more = record { scope = d.scope; globals = d.globals; routines = d.routines ++ more }

abbrev pub with_done : Done → Numbered → Numbered
with_done done one = record { first = one.first; done = Some done }

-- the routine of this number with its block
abbrev pub finishing : ℕ → Done → List Numbered → List Numbered
finishing number done [] = []
finishing zero done (one ∷ rest) = with_done done one ∷ rest
finishing (suc number) done (one ∷ rest) = one ∷ finishing number done rest

-- ---- a block while it is read

-- the unit, and what the routine has declared whose block it is
pub record Stage : Type 0 where
  pub draft : Drafted
  pub locals : List TypeId

abbrev pub stage : Drafted → List TypeId → Stage
stage d locals = record { draft = d; locals = locals }

abbrev pub progress_of : Stage → Progress
progress_of s = progress s.draft.scope s.draft.globals s.locals

abbrev pub with_progress : Stage → Progress → Stage
with_progress s p = stage (record { scope = p.scope; globals = p.globals; routines = s.draft.routines }) p.locals

-- how deep a block lies: the unit's own not at all
abbrev pub depth_of : Site → ℕ
depth_of site = level_of site.home

-- Object types stand outside routines alone.
abbrev pub next_for : Home → ℕ → Option ℕ
next_for home.Unit number = Some number
next_for (home.Routine level first) number = None

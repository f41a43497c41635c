-- Names that used units bring are there, where a scope tells what they mean.
use Rattle.std.proofs.Common.{◌≡◌, ℕ, zero, suc, ◌≤◌, List, [], ◌∷◌, None, refl, subst, arith}
use Rattle.std.specs.Prelude.{Some, slice_get}
use Rattle.std.proofs.lemmas.List.Elements.{All-get_or}
use Rattle.std.proofs.lemmas.Option.{slice_get_within, get_or_from_slice_get}
use Rattle.declarations_well_formed.specs.type_layout.declared.definitions.TypeId.{TypeId}
use Rattle.declarations_well_formed.specs.type_layout.declared.definitions.Header.{Header}
use Rattle.declarations_well_formed.specs.typed_tree.type_fits.Fits.{definition, AreSameHeaders, IsValue}
use Rattle.declarations_well_formed.specs.well_formed.Scopes.{IsOneOf, Prototype, Scope, IsNamed, IsRoutineAt}
use Rattle.declarations_well_formed.specs.well_formed.Typed.{IsRoutineValue}
use Rattle.declarations_well_formed.specs.scopes.declared.entries.Entry.{Entry}
use Rattle.declarations_well_formed.specs.scopes.declared.entries.Entry.TheVariants as entry
use Rattle.declarations_well_formed.specs.scopes.Symbols.{SymbolList}
use Rattle.declarations_well_formed.specs.scopes.Environment.{Environment}
use Rattle.declarations_well_formed.specs.rules_well_formed.nodes.Tables.{IsInTable, IsHeaderIn}
use Rattle.units_well_formed.specs.parts.Below.{IsVariableIn, IsAtDepth, IsDeclaredIn, IsEntry, EachOf, others_of}
use Rattle.units_well_formed.proofs.parts.Below.{global_told, IsTold, used_told}

-- What an entry of another unit is, but for that a scope tells it: its types are those of the table, and the unit isn't the one that is read.
abbrev pub IsShown : Scope → Entry → Type 0
IsShown s (entry.Const ty v) = IsValue s.types v (definition s.types ty)
IsShown s (entry.Ty ty) = IsInTable s.types ty
IsShown s (entry.Var unit level number ty) = IsInTable s.types ty × (level ≡ 0) × (1 ≤ unit)
IsShown s (entry.Code routine level header far) = IsHeaderIn s.types header × (1 ≤ routine.unit) × IsNamed s routine.unit
IsShown s (entry.Std number) = Unit {0}

-- a unit is named
pub named_at : (s : Scope) (unit : ℕ) (name : List ℕ) → 1 ≤ unit → IsOneOf (record { number = unit; name = name }) s.others.units → IsNamed s unit
named_at s zero name behind h = tt
named_at s (suc unit) name behind h = (name, h)

-- the names of a used unit are told
pub names_told : (g : Environment) (place : ℕ) (names : SymbolList) → slice_get g.used place ≡ Some names → EachOf (IsTold (others_of g)) names
names_told g place names at =
    subst (EachOf (IsTold (others_of g))) (get_or_from_slice_get g.used place names names at)
    (All-get_or (EachOf (IsTold (others_of g))) g.used place names (slice_get_within g.used place names at) (used_told g))

module _ (s : Scope) where
  variable_told : (level unit number : ℕ) (ty : TypeId) → level ≡ 0 → 1 ≤ unit → IsOneOf (global_told unit number ty) s.others.globals → IsVariableIn s [] level unit number ty
  variable_told zero zero number ty outer behind h = absurd (omega (arith, behind))
  variable_told zero (suc unit) number ty outer behind h = h
  variable_told (suc level) unit number ty outer behind h = absurd (omega (arith, outer))

  routine_told_at : (Asked : Prototype → Type 0) (unit number : ℕ) (seen : Prototype) → 1 ≤ unit → IsOneOf (record { routine = record { unit = unit; number = number }; seen = seen }) s.others.routines → Asked seen
      → IsRoutineAt Asked s unit number
  routine_told_at Asked zero number seen behind h k = absurd (omega (arith, behind))
  routine_told_at Asked (suc unit) number seen behind h k = (seen, h, k)

  depth_told : (unit number level : ℕ) → 1 ≤ unit → IsAtDepth s unit number level
  depth_told zero number level behind = absurd (omega (arith, behind))
  depth_told (suc unit) number level behind = tt

  alike : (header : Header) → AreSameHeaders header header
  alike header = record { kind = refl; params = refl; result = refl }

  entry_told : (one : Entry) → IsShown s one → IsTold s.others one → IsEntry s [] one
  entry_told (entry.Const ty v) h told = h
  entry_told (entry.Ty ty) h told = h
  entry_told (entry.Var unit level number ty) h told = (h.0, variable_told level unit number ty h.1 h.2 told)
  entry_told (entry.Code routine level header far) h told =
      let seen : Prototype = record { header = header; owner = None; outer = None; far = far } in (
        routine_told_at (IsDeclaredIn [] header) routine.unit routine.number seen h.1 told (record { free = record { free = refl; same = alike header }; outer = refl }),
        h.0,
        λ is_far outer. (routine_told_at (IsRoutineValue header) routine.unit routine.number seen h.1 told (record { far = is_far; free = refl; outermost = refl; same = alike header }), h.2),
        depth_told routine.unit routine.number level h.1,
      )
  entry_told (entry.Std number) h told = tt

  pub entries_told : (names : SymbolList) → EachOf (IsShown s) names → EachOf (IsTold s.others) names → EachOf (IsEntry s []) names
  entries_told [] h told = tt
  entries_told (one ∷ rest) h told = (entry_told one.1 h.0 told.0, entries_told rest h.1 told.1)

-- What a scope tells of other units: their names, the variables and the routines that used units bring, and the methods of types.
use Rattle.std.specs.Prelude.{◌+◌, ℕ, true, List, [], ◌∷◌, ◌++◌, Option, Some, None}
use Rattle.tp_check_stmt.specs.type_layout.declared.definitions.TypeId.{TypeId}
use Rattle.tp_check_stmt.specs.type_layout.declared.definitions.RoutineId.{RoutineId}
use Rattle.tp_check_stmt.specs.type_layout.declared.definitions.Method.{Method}
use Rattle.tp_check_stmt.specs.type_layout.declared.definitions.TypeDef.{TypeDef}
use Rattle.rules_well_formed.specs.well_formed.Scopes.{OtherUnit, OtherGlobal, OtherRoutine, Others}
use Rattle.tp_check_stmt.specs.scopes.declared.entries.Entry.{Entry}
use Rattle.tp_check_stmt.specs.scopes.declared.entries.Entry.TheVariants as entry
use Rattle.tp_check_stmt.specs.scopes.Symbols.{SymbolList}
use Rattle.tp_check_stmt.specs.scopes.Environment.{Environment}
use Rattle.tp_check_stmt.specs.call_rules.method_rules.Slots.{methods_of}
use Rattle.tp_check_stmt.specs.call_rules.method_rules.Methods.{routine_in}

-- ---- units

-- from the one with a number on
abbrev pub units_at : ℕ → List (List ℕ) → List OtherUnit
units_at number [] = []
units_at number (name ∷ rest) = record { number = number; name = name } ∷ units_at (number + 1) rest

-- ---- names that used units bring

abbrev pub globals_by : Entry → List OtherGlobal
globals_by (entry.Var unit level number ty) = record { unit = unit; number = number; ty = ty } ∷ []
globals_by _ = []

abbrev pub globals_in : SymbolList → List OtherGlobal
globals_in [] = []
globals_in (one ∷ rest) = globals_by one.1 ++ globals_in rest

abbrev pub globals_used : List SymbolList → List OtherGlobal
globals_used [] = []
globals_used (names ∷ rest) = globals_in names ++ globals_used rest

-- a routine that isn't declared in another, and no method
abbrev pub routines_by : Entry → List OtherRoutine
routines_by (entry.Code routine level header far) = record { routine = routine; seen = record { header = header; owner = None; outer = None; far = far } } ∷ []
routines_by _ = []

abbrev pub routines_in : SymbolList → List OtherRoutine
routines_in [] = []
routines_in (one ∷ rest) = routines_by one.1 ++ routines_in rest

abbrev pub routines_used : List SymbolList → List OtherRoutine
routines_used [] = []
routines_used (names ∷ rest) = routines_in names ++ routines_used rest

-- ---- methods of types

-- the routine of a method, if its unit has a name in the scope
abbrev pub method_by : TypeId → Method → Option RoutineId → List OtherRoutine
method_by class method None = []
method_by class method (Some routine) =
    record { routine = routine; seen = record { header = method.header; owner = Some class; outer = None; far = true } } ∷ []

abbrev pub methods_from : Environment → TypeId → List Method → List OtherRoutine
methods_from g class [] = []
methods_from g class (method ∷ rest) = method_by class method (routine_in g method.routine) ++ methods_from g class rest

-- of the types from the one with a number on
abbrev pub methods_at : Environment → ℕ → List TypeDef → List OtherRoutine
methods_at g number [] = []
methods_at g number (one ∷ rest) = methods_from g (record { 0 = number }) (methods_of (Some one)) ++ methods_at g (number + 1) rest

-- ---- the whole

-- what names the units of methods
abbrev pub naming : Environment → Environment
naming g = record { types = g.types; units = g.units; predeclared = []; used = []; seen = 0; blocks = [] }

abbrev pub others_of : Environment → Others
others_of g = record {
  units = units_at 0 g.units;
  globals = globals_used g.used;
  routines = routines_used g.used ++ methods_at (naming g) 0 g.types.types;
}

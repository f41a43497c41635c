-- The program that the files of a folder hold: what is said of it where it lies in memory once is said of it everywhere.
use Rattle.std.proofs.Common.{◌≡◌, ℕ, List, Option, Some, None, inl, inr, subst}
use Rattle.std.specs.Prelude.{IfSome}
use Rattle.tp_outside.specs.Folder.{Folder}
use Rattle.common_values.specs.behaviour.Seen.{Seen}
use Rattle.typed_tree.specs.declared.units.Program.{Program}
use Rattle.mz_file.specs.Format.{exe_of}
use Rattle.literal_programs.specs.literal_code.Ends.{EndsAs, EndsWithin}
use Rattle.literal_programs.specs.Literals.{IsLiteral}
use Rattle.front_end.specs.declared.outcomes.outcome.Outcome.{Outcome}
use Rattle.commands.specs.mean_program.Shown.{Sinks, Writes, Shows}
use Rattle.front_end.specs.declared.program.TypedSources.{TypedSources}
use Rattle.front_end.specs.Found.{IsFoundIn}
use Rattle.front_end.specs.Typed.{IsProgramIn}
use Rattle.front_end.specs.Untyped.{IsNoProgram}
use Rattle.checked_front_end.specs.interfaces_consistent.determinism.Folder.{FoundNone}
use Rattle.checked_front_end.proofs.interfaces_consistent_proofs.determinism.Programs.{found_none}
use Rattle.literal_form_laws.specs.address_independence.congruence.Laws.{IsSame}
use Rattle.literal_form_laws.proofs.address_independence_proofs.congruence.Runs.{means_alike}
use Rattle.literal_form_laws.proofs.congruence.Programs.{says_alike, has_memory_alike}
use Rattle.commands.specs.Go.{DoesSoon, IsBuiltFrom}
use Rattle.commands.specs.Turbo.{HoldsLiteral}

-- ---- where the folder is told

pub none_found : (known : Option Folder) (name : List ℕ) (result : Outcome) → IfSome known (λ held. IsNoProgram held name result) → IfSome known (λ held. FoundNone held name result)
none_found None name result why = tt
none_found (Some held) name result why = found_none held name result why

pub found_in : (held : Folder) (name : List ℕ) (found : TypedSources) → IsFoundIn held name found → IsProgramIn held name found.program
found_in held name found is = record { texts = found.texts.items; sources = found.sources.items; gathers = is.gathers; is = is.is }

pub program_in : (known : Option Folder) (name : List ℕ) (found : TypedSources) → IfSome known (λ held. IsFoundIn held name found) → IfSome known (λ held. IsProgramIn held name found.program)
program_in None name found is = tt
program_in (Some held) name found is = found_in held name found is

-- ---- programs that are the same

pub literal_too : (one other : Program) → IsSame one other → IsLiteral one → IsLiteral other
literal_too one other same literal = record { statements = literal.statements; says = says_alike one other same literal.statements literal.says }

pub does_too : (one other : Program) (bytes : List ℕ) → IsSame one other → DoesSoon one bytes → DoesSoon other bytes
does_too one other bytes same does = record {
  literal = record { statements = does.literal.statements; says = says_alike one other same does.literal.statements does.literal.says };
  plain = does.plain;
  spelled = does.spelled;
  size = does.size;
  memory = has_memory_alike one other same (exe_of bytes) does.memory;
  agrees = record {
    executable = does.agrees.executable;
    fits = does.agrees.fits;
    runs = λ input turns. subst (EndsAs bytes input) (means_alike one other same input turns) (does.agrees.runs input turns);
  };
  soon = λ input turns. subst (EndsWithin 16389 bytes input) (means_alike one other same input turns) (does.soon input turns);
}

pub shows_too : (one other : Program) (turns : ℕ) (result : Outcome) (input input' : Option (List ℕ)) (faults faults' : ℕ) (old new : Sinks) → IsSame one other
    → Shows one turns result input input' faults faults' old new → Shows other turns result input input' faults faults' old new
shows_too one other turns result input input' faults faults' old new same (inl means) = inl (record {
  bytes = means.bytes;
  whole = means.whole;
  writes = subst (λ (seen : Seen). Writes seen result old new) (means_alike one other same means.bytes turns) means.writes;
})
shows_too one other turns result input input' faults faults' old new same (inr declines) = inr declines

-- what the bytes do of the program that they were built from
pub does_so : (held : Folder) (name bytes : List ℕ) → (built : IsBuiltFrom held name bytes) → DoesSoon built.program bytes
does_so held name bytes built = built.does built.program built.is

pub holds_literal : (held : Folder) (name bytes : List ℕ) → IsBuiltFrom held name bytes → HoldsLiteral held name
holds_literal held name bytes built = record { program = built.program; is = built.is; literal = λ one here. (built.does one here).literal }

-- What is found in the files of a folder: a program, or why there is none.
use Rattle.std.proofs.Common.{ℕ, List, Option, Some, None, refl, inl}
use Rattle.std.specs.Prelude.{All, IfSome}
use Rattle.tp_outside.specs.Folder.{Folder}
use Rattle.typed_tree.specs.declared.units.Unit.{Unit}
use Rattle.typed_tree.specs.declared.units.Program.{Program}
use Rattle.source_graph.specs.declared.sources.Source.{Source}
use Rattle.source_graph.specs.declared.error.GatherError.TheVariants as gather
use Rattle.front_end.specs.declared.outcomes.outcome.Outcome.TheVariants as outcome
use Rattle.token_provenance.specs.sources.Laws.{SourcesLaw}
use Rattle.programs_well_typed.specs.programs.Below.{IsSource, IsRoomy, IsHeld, HaveDeclaredMethods, MethodsLaw, WholeLaw}
use Rattle.programs_well_typed.specs.programs.Laws.{WellTypedLaw}
use Rattle.front_end.specs.Untyped.{IsNoProgram}
use Rattle.checked_front_end.specs.Known.{IsKept}
use Rattle.checked_front_end.specs.Numbers.{HasRoom, IsRoomyThen}
use Rattle.checked_front_end.specs.Formed.{FormedLaw}

-- units whose types have methods as they were declared
roomy_units : (units : List Unit) → All IsRoomyThen units → All (λ (unit : Unit). HaveDeclaredMethods unit.types.types) units → All IsRoomy units
roomy_units units roomy declared k d h = roomy k d h (declared k d h)

-- what no rule sees to, by what was counted and by the types of values
held_units : (units : List Unit) → All IsKept units → All HasRoom units → All IsHeld units
held_units units kept room k d h = record { bytes = (kept k d h).bytes; few = (room k d h).variables }

pub formed : SourcesLaw → MethodsLaw → WholeLaw → WellTypedLaw → FormedLaw
formed sources methods whole typed held name found is texts kept numbered roomy =
    let program : Program = found.program in
    let written : All (λ (source : Source). IsSource source.tree) found.sources.items =
    λ k d h. sources held name found.texts.items found.sources.items is.gathers texts k d h (numbered.sources k d h) in
    let declared = methods held name found.texts.items found.sources.items is.gathers program is.is in
    let room : All IsRoomy program.units = roomy_units program.units roomy declared in
    record {
      units = (whole held name found.texts.items found.sources.items is.gathers program is.is written room).0;
      typed = typed held name found.texts.items found.sources.items is.gathers program is.is written room (held_units program.units kept numbered.units) (λ k d h. (kept k d h).table);
    }

-- out of memory may come in the place of any program
pub none_for_memory : (known : Option Folder) (name : List ℕ) → IfSome known (λ held. IsNoProgram held name outcome.NoMemory)
none_for_memory None name = tt
none_for_memory (Some held) name = inl (record { error = gather.NoMemory; cause = tt; is = refl })

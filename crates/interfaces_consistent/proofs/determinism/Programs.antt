-- The files of a folder hold one program at most, and where they hold one no rule is told of.
use Rattle.std.proofs.Common.{ℕ, List, sym, subst, inl, inr}
use Rattle.interface_soundness.specs.tp_outside.Folder.{Folder}
use Rattle.interface_soundness.specs.typed_tree.declared.units.Program.{Program}
use Rattle.interface_soundness.specs.source_graph.declared.error.GatherError.{GatherError}
use Rattle.interface_soundness.specs.source_graph.declared.error.GatherError.TheVariants as gather
use Rattle.interface_soundness.specs.source_graph.Walk.{IsRefused, Unless}
use Rattle.interface_soundness.proofs.source_graph_proofs.WalkLaws.{gathers_or_refused}
use Rattle.interface_soundness.specs.front_end.declared.outcomes.outcome.Outcome.{Outcome}
use Rattle.interface_soundness.specs.front_end.refusals.Outcomes.{gather_outcome}
use Rattle.interface_soundness.specs.front_end.Typed.{IsProgramIn}
use Rattle.interface_soundness.specs.front_end.Untyped.{IsNoProgram}
use Rattle.interface_soundness.proofs.source_graph_proofs.determinism.Readings.{one_reading}
use Rattle.interface_soundness.proofs.programs.Programs.{one_program}
use Rattle.interfaces_consistent.proofs.interfaces.Mismatches.{only_memory}
use Rattle.interfaces_consistent.specs.determinism.Folder.{IsExempt, FoundNone}
use Rattle.interfaces_consistent.specs.determinism.Laws.{SourcesAlike, OneFolder, NeverRefused}
use Rattle.interfaces_consistent.proofs.determinism.Alike.{program_alike}

pub sources_alike : SourcesAlike
sources_alike sources others all program is = program_alike sources others all program is

pub one_folder : OneFolder
one_folder held name one other first second =
    let r = one_reading held name first.texts second.texts first.sources second.sources first.gathers second.gathers in
    one_program held name second.texts second.sources second.gathers one other (program_alike first.sources second.sources r.1 one first.is) second.is

-- sources that are gathered are not refused
exempt : (held : Folder) (name : List ℕ) (program : Program) → IsProgramIn held name program → (error : GatherError) → Unless error (IsRefused held name error) → IsExempt (gather_outcome error)
exempt held name program is gather.FilesFault cause = tt
exempt held name program is gather.NoMemory cause = tt
exempt held name program is (gather.MissingFile file) cause = absurd (gathers_or_refused held name (gather.MissingFile file) is.texts is.sources is.gathers cause)
exempt held name program is (gather.TooLarge bytes) cause = absurd (gathers_or_refused held name (gather.TooLarge bytes) is.texts is.sources is.gathers cause)
exempt held name program is (gather.BadToken at why) cause = absurd (gathers_or_refused held name (gather.BadToken at why) is.texts is.sources is.gathers cause)
exempt held name program is (gather.Syntax at) cause = absurd (gathers_or_refused held name (gather.Syntax at) is.texts is.sources is.gathers cause)
exempt held name program is (gather.NotInProfile at feature) cause = absurd (gathers_or_refused held name (gather.NotInProfile at feature) is.texts is.sources is.gathers cause)
exempt held name program is (gather.TooDeep at) cause = absurd (gathers_or_refused held name (gather.TooDeep at) is.texts is.sources is.gathers cause)

pub never_refused : NeverRefused
never_refused held name program is result (inl u) = subst IsExempt (sym u.is) (exempt held name program is u.error u.cause)
never_refused held name program is result (inr u) =
    let r = one_reading held name is.texts u.texts is.sources u.sources is.gathers u.gathers in
    subst IsExempt (sym (only_memory held name u.texts u.sources u.gathers program (program_alike is.sources u.sources r.1 program is.is) result u.why)) tt

pub found_none : (held : Folder) (name : List ℕ) (result : Outcome) → IsNoProgram held name result → FoundNone held name result
found_none held name result why = record { why = why; exempt = λ program is. never_refused held name program is result why }

-- Sound units are a well-typed program.
use Rattle.std.proofs.Common.{[]}
use Rattle.type_soundness.specs.typed_tree.declared.units.Unit.{Unit as TypedUnit}
use Rattle.type_soundness.specs.typed_tree.declared.units.Program.{Program}
use Rattle.type_soundness.specs.typed_tree.Statements.{view_stmt}
use Rattle.type_soundness.specs.store_typing.types.Agreement.{IsUnit}
use Rattle.type_soundness.specs.program_typing.programs.WellTyped.{IsSoundUnit}
use Rattle.unit_references.specs.Units.{HasSoundUnits}
use Rattle.unit_references.specs.Laws.{StatementsRefer, UnitsAreWellTyped}
use Rattle.unit_references.proofs.Statements.{statement_refers}

pub all_refer : StatementsRefer
all_refer program sound unit listed number withs statement h = statement_refers program sound unit listed number withs statement h

sound_unit : (program : Program) → HasSoundUnits program → (unit : TypedUnit) → IsUnit program unit → IsSoundUnit program unit
sound_unit program sound unit listed =
    let parts = sound.parts unit listed in
    let supported = sound.supported unit listed in
    let formed = supported.formed in
    record {
      own = parts.own;
      well_formed = formed;
      globals = parts.globals;
      routines = parts.routines;
      refers = λ number routine is. (let typed = formed.routines number routine is in statement_refers program sound unit listed number [] (view_stmt routine.body) typed.body);
    }

pub well_typed : UnitsAreWellTyped
well_typed program named sound classes methods = record {
  listed = named;
  units = sound_unit program sound;
  agreed = sound.agreed;
  classes = classes;
  methods = methods;
}

-- What crates above this one cite of those below it, by one name.
pub use Rattle.units_well_formed.proofs.units.Begun.{interface_left}
pub use Rattle.units_well_formed.proofs.units.Below.{extends_itself, known_closed, lawful_outlined}
pub use Rattle.units_well_formed.proofs.units.Overlay.{overlay_brings}
pub use Rattle.units_well_formed.proofs.units.Sources.{program_room, unit_room}
pub use Rattle.units_well_formed.proofs.units.Used.{uses_more}
pub use Rattle.units_well_formed.proofs.units.Uses.{bare_keep, overlay_joins}
pub use Rattle.units_well_formed.proofs.declarations_well_formed_proofs.exported_constants.Kept.{new_id_is}

-- What crates above this one cite of those below it, by one name.
pub use Rattle.programs_well_typed.specs.suppositions.Below.{AreOnce, HasDeclaredMethods, IsKeptTable, IsRoomy, IsSource, WholeLaw, interface_variables, names_in, variables_in, variables_of}
pub use Rattle.shared_types_agree.specs.method_numbers.Laws.{HaveDeclaredMethods, MethodsLaw}
pub use Rattle.programs_well_typed.specs.units.Sound.{BeginsWithBytes, HasFewVariables, IsHeld}

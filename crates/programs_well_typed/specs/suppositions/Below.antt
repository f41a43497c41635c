-- What crates above this one cite of those below it, by one name.
pub use Rattle.programs_well_formed.specs.programs.Laws.{WholeLaw}
pub use Rattle.shared_types_agree.specs.methods.Below.{ConsistencyLaw, AreOnce, ClassesLaw, HasDeclaredMethods, IsKeptTable, IsProgram, IsRoomy, IsSource, ListedLaw, interface_variables, names_in, variables_in, variables_of}
pub use Rattle.shared_types_agree.specs.methods.Laws.{MethodsLaw}

pub use Rattle.common_values.specs as common_values
pub use Rattle.type_layout.specs as type_layout
pub use Rattle.typed_tree.specs as typed_tree
pub mod Trees
pub mod Found
pub mod Shapes
pub mod Store
pub mod Programs
pub mod Outcomes
pub mod Operators
pub mod Activations
pub mod Calls
pub mod Standard
pub mod Expressions
pub mod Statements
pub mod Meaning
pub mod Laws
pub mod ForLaws
pub mod Examples
pub mod ShownStatements
pub mod ShownParts
pub mod ShownCalls
pub mod operator_laws

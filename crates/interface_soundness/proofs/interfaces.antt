pub mod Growing
pub mod TypesGrow
pub mod RoutinesGrow
mod Renumbered
mod Shorter
pub mod UsesGrow
pub mod AgreementLaws

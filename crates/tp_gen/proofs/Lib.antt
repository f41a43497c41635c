pub mod DrawLaws
pub mod NameLaws
pub mod UnitLaws

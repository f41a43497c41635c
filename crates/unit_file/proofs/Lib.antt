pub mod AskedLaws
pub mod UnitLaws

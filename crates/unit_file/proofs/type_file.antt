pub mod HeaderLaws
pub mod TypeLaws
pub mod EntryLaws
pub mod TableLoop
pub mod AddLaws
pub mod OptionLaws

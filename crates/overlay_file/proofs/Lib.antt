pub mod EntryLaws
pub mod FileLaws
pub mod LoopLaws
pub mod NameLaws
pub mod PartLaws
pub mod Places

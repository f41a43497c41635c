pub mod Addable
pub mod DenoterLaws
pub mod Views
pub mod Counts
pub mod Steps
pub mod Structured

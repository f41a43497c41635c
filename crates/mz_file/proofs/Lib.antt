pub mod LoadLaws
pub mod ReadLaws
pub mod SpellingLaws
pub mod WordLaws

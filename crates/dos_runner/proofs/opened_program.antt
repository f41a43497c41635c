pub mod MatchLaws
pub mod ReasonLaws

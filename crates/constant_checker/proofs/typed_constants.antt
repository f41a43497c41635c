pub mod Views
pub mod InitializerLaws
pub mod Sizes
pub mod Answered

pub mod EventLaws
pub mod CourseLaws

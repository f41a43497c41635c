pub mod Event
pub mod Course
pub mod Runner

pub mod States
pub mod Flows
pub mod Tests
pub mod Loops
pub mod Steps
pub mod Lists

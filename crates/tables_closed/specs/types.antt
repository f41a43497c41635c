pub mod Promises
pub mod WellScoped

pub mod Results
pub mod Names
pub mod Installing
pub mod Clearing

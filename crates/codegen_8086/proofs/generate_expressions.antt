pub mod Plain
pub mod Arguments

pub mod routine_proofs
pub mod start_data
pub mod string_loops
pub mod strings_in_memory
pub mod text_memory

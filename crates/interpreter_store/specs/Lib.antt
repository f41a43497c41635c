pub mod cell_store
pub mod typed_cells

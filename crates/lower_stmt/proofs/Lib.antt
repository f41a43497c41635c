pub mod DatumRows

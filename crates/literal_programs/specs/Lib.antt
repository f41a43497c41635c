pub use Rattle.mz_file.specs as mz_file
pub use Rattle.typed_tree.specs as typed_tree
pub mod Literals
pub mod Reading
pub mod Memory
pub mod Agrees
pub mod literal_code

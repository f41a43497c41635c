pub mod Declaring
pub mod ShownKeys
pub mod Origins
pub mod Inherited
pub mod Mismatches

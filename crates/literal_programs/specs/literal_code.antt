pub mod Statement
pub mod Act
pub mod LiteralProgram
pub mod Code
pub mod Image
pub mod Ends
pub mod Size

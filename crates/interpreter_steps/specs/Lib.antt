pub mod Running
pub mod Places
pub mod Entering
pub mod StatementParts
pub mod interpreter_frames

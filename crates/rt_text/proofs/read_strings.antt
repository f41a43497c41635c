pub mod Texts
pub mod Filling
pub mod StringReading

pub mod Layouts
pub mod StubBytes
pub mod Sums

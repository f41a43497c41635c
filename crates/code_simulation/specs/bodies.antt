pub mod Expressible
pub mod Layouts
pub mod Bodies

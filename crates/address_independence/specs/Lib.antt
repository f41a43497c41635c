pub mod congruence
pub mod spelling
pub mod yields
